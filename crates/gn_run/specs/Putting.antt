-- Registers into which the values of others are put.
use Rattle.std.specs.Prelude.{◌≡◌, ℕ, ◌<◌, List, [], ◌∷◌, length, All, slice_index}
use Rattle.gn_value.specs.Registers.{register_kind, register_len, register_value}
use Rattle.gn_value.specs.Values.{zero_of}
use Rattle.gn_value.specs.declared.op.Register.{Register}
use Rattle.gn_value.specs.declared.value.Value.{Value}
use Rattle.gn_fill.specs.Put.{IsPut}

-- a register of another one's kind has zero at each of some number of elements
pub record IsZeroOf (count : ℕ) (r zeros : Register) : Type 0 where
  pub kind : register_kind zeros ≡ register_kind r
  pub len : register_len zeros ≡ count
  pub values : (i : ℕ) → i < count → register_value i zeros ≡ zero_of (register_kind r)

-- a register has a value for each of some elements, which are among those of another one of its kind
pub record CanPut (ns : List ℕ) (values into : Register) : Type 0 where
  pub kind : register_kind values ≡ register_kind into
  pub len : register_len values ≡ length ns
  pub within : All (λ n. n < register_len into) ns

-- a register has changed at some elements, to the values of another one
pub record PutsAt (ns : List ℕ) (given before after : Register) : Type 0 where
  pub kind : register_kind after ≡ register_kind before
  pub len : register_len after ≡ register_len before
  pub values : (value : ℕ → Value) → ((k : ℕ) → k < length ns → register_value k given ≡ value (slice_index ns k))
      → IsPut ns value (λ i. register_value i before) (λ i. register_value i after) (register_len before)

abbrev pub AllPut : List ℕ → List Register → List Register → List Register → Type 0
AllPut ns [] [] [] = Unit {0}
AllPut ns (v ∷ vs) (b ∷ bs) (a ∷ rest) = PutsAt ns v b a × AllPut ns vs bs rest
AllPut ns _ _ _ = ⊥
