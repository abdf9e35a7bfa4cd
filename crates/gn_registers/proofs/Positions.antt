-- Registers, and what they hold at a position.
use Rattle.std.proofs.Common.{◌∙◌, ap, ◌+◌, ◌≡◌, ◌<◌, ℕ, zero, suc, List, [], ◌∷◌, map, length, replicate, slice_index_or, slice_get, All, Some, sym, refl, arith, option_map}
use Rattle.std.proofs.Math.Numerals.{suc-eq-add-one}
use Rattle.std.proofs.lemmas.List.Elements.{All-head, All-tail}
use Rattle.gn_value.specs.Registers.{register_kind, register_len, register_value, registers_named}
use Rattle.gn_value.specs.Values.{converted, kind_of, zero_of}
use Rattle.gn_value.specs.declared.value.Value.{Value}
use Rattle.gn_value.specs.declared.value.ValueKind.{ValueKind}
use Rattle.gn_value.specs.declared.value.ValueKind.TheVariants as k
use Rattle.gn_value.specs.Operations.{mix_gives, vector_math_gives}
use Rattle.gn_value.specs.declared.op.VectorMathOp.{VectorMathOp}
use Rattle.gn_value.specs.declared.op.VectorMathOp.TheVariants as v
use Rattle.gn_value.specs.declared.op.MixKind.{MixKind}
use Rattle.gn_value.specs.declared.op.MixKind.TheVariants as x
use Rattle.gn_value.specs.declared.op.Register.{Register}
use Rattle.gn_value.specs.declared.op.Register.TheVariants.{Truth, Int, Fixed, Vector}
use Rattle.gn_registers.specs.Arguments.{argument}

found_some : {X : Type 0} (xs : List X) (i : ℕ) → i < length xs → (x : X) × (slice_get xs i ≡ Some x)
found_some [] i h = absurd (omega arith)
found_some (x ∷ xs) zero h = (x, refl)
found_some (x ∷ xs) (suc i) h = found_some xs i (omega arith)

found : {X : Type 0} (xs : List X) (i : ℕ) (x : X) → i < length xs → x ≡ slice_index_or xs i x → slice_get xs i ≡ Some x
found [] i x h e = absurd (omega arith)
found (y ∷ ys) zero x h e = λ j. Some (sym e j)
found (y ∷ ys) (suc i) x h e = found ys i x (omega arith) e

-- an argument names the register that has its number
pub argument_found : (registers : List Register) (numbers : List ℕ) (at : ℕ) (register : Register)
    → All (λ number. number < length registers) numbers → at < length numbers
    → register ≡ slice_index_or registers (slice_index_or numbers at 0) register → slice_get (registers_named registers numbers) at ≡ Some register
argument_found registers [] at register all h e = absurd (omega arith)
argument_found registers (number ∷ numbers) zero register all h e =
    rw (found registers number register (All-head (λ n. n < length registers) number numbers all) e) refl
argument_found registers (number ∷ numbers) (suc at) register all h e =
    rw (found_some registers number (All-head (λ n. n < length registers) number numbers all)).1
    (argument_found registers numbers at register (All-tail (λ n. n < length registers) number numbers all) (omega arith) e)

-- each number names a register
pub named_length : (registers : List Register) (numbers : List ℕ)
    → All (λ number. number < length registers) numbers → length (registers_named registers numbers) ≡ length numbers
named_length registers [] all = refl
named_length registers (number ∷ numbers) all =
    rw (found_some registers number (All-head (λ n. n < length registers) number numbers all)).1
    (ap suc (named_length registers numbers (All-tail (λ n. n < length registers) number numbers all)))

-- where an argument has a kind, it is there, and so is the first
pub argument_there : (registers : List Register) (at : ℕ) (kind : ValueKind)
    → slice_get (map register_kind registers) at ≡ Some kind → at < length registers
argument_there [] at kind e = cc
argument_there (register ∷ registers) zero kind e = omega arith
argument_there (register ∷ registers) (suc at) kind e = let h = argument_there registers at kind e in omega arith

-- the register at a position, its kind and its values
pub kind_at : (registers : List Register) (at : ℕ) → slice_get (map register_kind registers) at ≡ option_map register_kind (slice_get registers at)
kind_at [] at = refl
kind_at (register ∷ registers) zero = refl
kind_at (register ∷ registers) (suc at) = kind_at registers at

pub value_of_register : (k : ℕ) (registers : List Register) (at : ℕ) (register : Register)
    → slice_get registers at ≡ Some register → register_value k register ≡ argument k registers at
value_of_register k [] at register e = cc
value_of_register k (first ∷ registers) zero register e = let same : first ≡ register = cc in rw same refl
value_of_register k (first ∷ registers) (suc at) register e = value_of_register k registers at register e

-- the register that an argument names is as long as the others
pub argument_long : (registers : List Register) (at n : ℕ) (register : Register) → All (λ register. register_len register ≡ n) registers
    → slice_get registers at ≡ Some register → register_len register ≡ n
argument_long [] at n register lens e = cc
argument_long (first ∷ registers) zero n register lens e =
    let same : first ≡ register = cc in rw (← same) (All-head (λ register. register_len register ≡ n) first registers lens)
argument_long (first ∷ registers) (suc at) n register lens e =
    argument_long registers at n register (All-tail (λ register. register_len register ≡ n) first registers lens) e

-- the value has the kind of its register
value_kind : (k : ℕ) (register : Register) → kind_of (register_value k register) ≡ register_kind register
value_kind k (Truth values) = refl
value_kind k (Int values) = refl
value_kind k (Fixed values) = refl
value_kind k (Vector values) = refl

pub argument_kind : (k : ℕ) (registers : List Register) (at : ℕ) (kind : ValueKind)
    → slice_get (map register_kind registers) at ≡ Some kind → kind_of (argument k registers at) ≡ kind
argument_kind k [] at kind e = cc
argument_kind k (register ∷ registers) zero kind e = let same : register_kind register ≡ kind = cc in value_kind k register ∙ same
argument_kind k (register ∷ registers) (suc at) kind e = argument_kind k registers at kind e

-- each of many arguments of one kind has that kind
replicated : (n at : ℕ) (kind : ValueKind) → at < n → slice_get (replicate n kind) at ≡ Some kind
replicated zero at kind h = absurd (omega arith)
replicated (suc n) zero kind h = refl
replicated (suc n) (suc at) kind h = replicated n at kind (omega arith)

pub case_kind : (by kind : ValueKind) (n at : ℕ) → at < n → slice_get (by ∷ replicate n kind) (at + 1) ≡ Some kind
case_kind by kind n at h = rw (← suc-eq-add-one at) (replicated n at kind h)
