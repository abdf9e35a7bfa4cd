-- Which texts are a number of at most 99.
use Rattle.std.proofs.Common.{◌≡◌, ℕ, ◌+◌, ◌*◌, ◌^◌, ◌<◌, ◌≤◌, true, false, List, ◌∷◌, [], length, take, drop, get_or, refl, ap, sym, ◌∙◌, arith, nat_lt, nat_le, take-append-drop, mul-le-mul_left, zero, suc, lt-ltb, le-ltb, le-leb, Some, None}
use Rattle.std.specs.Char.{is_ascii_digit}
use Rattle.std.specs.List.{list_all}
use Rattle.std.specs.Str.Parse.{digits_value}
use Rattle.std.proofs.lemmas.Bool.{and_from, and_left, and_right, lt-leb}
use Rattle.gn_decimal.specs.Decimal.{small_number}
use Rattle.gn_decimal.proofs.Digits.{digits_value-append}
use Rattle.gn_decimal.proofs.Units.{pow_ten_pos}

not_all : (xs : List ℕ) (i : ℕ) → i < length xs → is_ascii_digit (get_or xs i 0) ≡ false → list_all is_ascii_digit xs ≡ false
not_all [] i h e = absurd (omega arith)
not_all (x ∷ xs) zero h e = and_left (is_ascii_digit x) (list_all is_ascii_digit xs) e
not_all (x ∷ xs) (suc i) h e = and_right (is_ascii_digit x) (list_all is_ascii_digit xs) (not_all xs i (omega arith) e)

-- the first digits are worth no more than all of them
value_of_front : (xs : List ℕ) (i : ℕ) → digits_value 10 (take i xs) ≤ digits_value 10 xs
value_of_front xs i =
    let both : digits_value 10 xs ≡ digits_value 10 (take i xs) * 10 ^ length (drop i xs) + digits_value 10 (drop i xs) = ap (digits_value 10) (sym (take-append-drop i xs)) ∙ digits_value-append (take i xs) (drop i xs) in
    let grown : digits_value 10 (take i xs) * 1 ≤ digits_value 10 (take i xs) * 10 ^ length (drop i xs) = mul-le-mul_left (digits_value 10 (take i xs)) (pow_ten_pos (length (drop i xs))) in
    omega arith

pub small_number_none : (xs : List ℕ) → length xs ≡ 0 → small_number xs ≡ None
unfolding small_number
small_number_none xs h = rw (le-ltb 0 (length xs) (omega arith)) refl

pub small_number_no_digit : (xs : List ℕ) (i : ℕ) → i < length xs → is_ascii_digit (get_or xs i 0) ≡ false → small_number xs ≡ None
unfolding small_number
small_number_no_digit xs i h e =
    let no = and_right (nat_lt 0 (length xs)) _ (and_left _ (nat_le (digits_value 10 xs) 99) (not_all xs i h e)) in
    rw no refl

pub small_number_too_large : (xs : List ℕ) (i : ℕ) → 99 < digits_value 10 (take i xs) → small_number xs ≡ None
unfolding small_number
small_number_too_large xs i h =
    let more = value_of_front xs i in
    let no = and_right (nat_lt 0 (length xs)) _ (and_right (list_all is_ascii_digit xs) _ (lt-leb (digits_value 10 xs) 99 (omega arith))) in
    rw no refl

pub small_number_is : (xs : List ℕ) → 0 < length xs → list_all is_ascii_digit xs ≡ true → digits_value 10 xs ≤ 99 → small_number xs ≡ Some (digits_value 10 xs)
unfolding small_number
small_number_is xs some all small =
    let yes = and_from _ _ (lt-ltb 0 (length xs) some) (and_from _ _ all (le-leb (digits_value 10 xs) 99 small)) in
    rw yes refl
