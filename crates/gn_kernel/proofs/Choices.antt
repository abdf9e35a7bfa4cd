use Rattle.std.proofs.Common.{◌≡◌, ℕ, suc, Bool, true, false, if◌then◌else◌, ◌&&◌, ℤ, pos, negsuc, List, int_lt, int_le, unsigned_abs, refl, ◌+◌, ap, arith}
use Rattle.std.specs.Ordering.{int_eq}
use Rattle.std.proofs.Math.Numerals.{suc-eq-add-one}
use Rattle.std.proofs.lemmas.Int.{ints}
use Rattle.gn_value.specs.Rows.{choice_of, chosen, value_at}
use Rattle.gn_value.specs.Values.{zero_of}
use Rattle.gn_value.specs.declared.value.Value.{Value}
use Rattle.gn_kernel.specs.Choices.{picked}
use Rattle.gn_value.specs.declared.value.ValueKind.{ValueKind}

-- a function of a choice chooses among what it gives
of_choice : {X Y : Type 0} (f : X → Y) (b : Bool) (x y : X) → f (if b then x else y) ≡ (if b then f x else f y)
of_choice f true x y = refl
of_choice f false x y = refl

pub of_picked : {X Y : Type 0} (f : X → Y) (case : ℕ) (choice : ℤ) (x y : X)
    → f (picked case choice x y) ≡ (if int_eq choice (pos case) then f x else f y)
unfolding picked
of_picked f case choice x y = of_choice f (int_eq choice (pos case)) x y

from_first : (n : ℕ) → int_le (pos 0) (pos n) ≡ true
from_first n = grind (arith, ints)

-- of no cases, the zero is chosen
none : (choice : ℤ) (x y : Value) → (if int_le (pos 0) choice && int_lt choice (pos 0) then x else y) ≡ y
none (pos n) x y =
    let below : int_lt (pos n) (pos 0) ≡ false = grind (arith, ints) in
    rw (from_first n, below) refl
none (negsuc n) x y = refl

pub chosen_none : (kind : ValueKind) (args : List Value) → chosen kind 0 args ≡ zero_of kind
unfolding chosen
chosen_none kind args = none (choice_of (value_at args 0)) _ _

-- with one more case, that one is chosen or what was chosen before
split : (n case : ℕ) (f : ℕ → Value) (z : Value) (under same : Bool) → int_lt (pos n) (pos case) ≡ under → int_eq (pos n) (pos case) ≡ same
    → (if int_lt (pos n) (pos (suc case)) then f n else z)
    ≡ (if int_eq (pos n) (pos case) then f case else (if int_lt (pos n) (pos case) then f n else z))
split n case f z true same u s =
    let a : int_lt (pos n) (pos (suc case)) ≡ true = grind (arith, ints) in
    let b : int_eq (pos n) (pos case) ≡ false = grind (arith, ints) in
    rw (a, b, u) refl
split n case f z false true u s =
    let a : int_lt (pos n) (pos (suc case)) ≡ true = grind (arith, ints) in
    let e : n ≡ case = grind (arith, ints) in
    rw (a, s) (ap f e)
split n case f z false false u s =
    let a : int_lt (pos n) (pos (suc case)) ≡ false = grind (arith, ints) in
    rw (a, s, u) refl

next_natural : (n case : ℕ) (f : ℕ → Value) (z : Value) → (if int_lt (pos n) (pos (suc case)) then f n else z)
    ≡ (if int_eq (pos n) (pos case) then f case else (if int_lt (pos n) (pos case) then f n else z))
next_natural n case f z = split n case f z (int_lt (pos n) (pos case)) (int_eq (pos n) (pos case)) refl refl

next : (choice : ℤ) (case : ℕ) (f : ℕ → Value) (z : Value)
    → (if int_le (pos 0) choice && int_lt choice (pos (suc case)) then f (unsigned_abs choice) else z)
    ≡ (if int_eq choice (pos case) then f case else (if int_le (pos 0) choice && int_lt choice (pos case) then f (unsigned_abs choice) else z))
next (pos n) case f z = rw (from_first n) (next_natural n case f z)
next (negsuc n) case f z = refl

chosen_suc : (kind : ValueKind) (case : ℕ) (args : List Value)
    → chosen kind (suc case) args ≡ (if int_eq (choice_of (value_at args 0)) (pos case) then value_at args (suc case) else chosen kind case args)
unfolding chosen
chosen_suc kind case args = next (choice_of (value_at args 0)) case (λ k. value_at args (suc k)) (zero_of kind)

pub chosen_next : (kind : ValueKind) (case : ℕ) (args : List Value)
    → chosen kind (case + 1) args ≡ (if int_eq (choice_of (value_at args 0)) (pos case) then value_at args (case + 1) else chosen kind case args)
chosen_next kind case args = rw (← suc-eq-add-one case) (chosen_suc kind case args)
