-- Values on a place of a context's component as values on the context's own place.
use Rattle.std.specs.Prelude.{◌≡◌, ℕ, ◌<◌, true}
use Rattle.gn_value.specs.Values.{zero_of}
use Rattle.gn_value.specs.Registers.{register_kind, register_len, register_value}
use Rattle.gn_value.specs.declared.op.Register.{Register}
use Rattle.gn_value.specs.declared.value.Value.{Value}
use Rattle.gn_value.specs.declared.value.Place.{Place}
use Rattle.gn_value.specs.declared.value.ValueKind.{ValueKind}
use Rattle.gn_plain.specs.Contexts.{Context, nowhere, on, length_of}

-- does the context's component have a place?
abbrev pub HasPlace : Context → Place → Type 0
HasPlace nowhere p = ⊥
HasPlace (on c q) p = c.has p ≡ true

-- the same component on another place
abbrev pub moved : Context → Place → Context
moved nowhere p = nowhere
moved (on c q) p = on c p

-- what an element of a context has of values on a place of its component
abbrev pub brought : Context → ValueKind → Place → (ℕ → Value) → ℕ → Value
brought nowhere kind from value i = zero_of kind
brought (on c p) kind from value i = c.interpolated kind from p value i

-- a register has the values of another, which are on a place of the component, and nothing past the end of these is read
pub record IsBrought (c : Context) (from : Place) (values r : Register) : Type 0 where
  pub kind : register_kind r ≡ register_kind values
  pub len : register_len r ≡ length_of c
  pub each : (value : ℕ → Value) → ((j : ℕ) → j < register_len values → value j ≡ register_value j values) → (i : ℕ) → i < length_of c → register_value i r ≡ brought c (register_kind values) from value i
