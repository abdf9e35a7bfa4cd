-- The magnitude of a text without a sign, from what each step of the reading gives.
use Rattle.std.proofs.Common.{◌≡◌, ℕ, ◌+◌, ◌*◌, ◌<◌, ◌^◌, min, List, [], ◌∷◌, length, ℤ, pos, refl, arith, Some, option_map, lt-ltb, unsigned_abs, if◌then◌else◌}
use Rattle.std.proofs.lemmas.List.{drop_all}
use Rattle.std.proofs.lemmas.List.Folds.{length-prefix_len}
use Rattle.std.specs.Char.{is_ascii_digit}
use Rattle.std.specs.Int.{is_negative}
use Rattle.std.specs.Str.Parse.{digits_value, digits_value_after}
use Rattle.gn_decimal.specs.Decimal.{after_digits, after_fraction, digits_of, exponent_of, fraction_of, has_magnitude, magnitude_of, parts_of, raw_of, units}
use Rattle.gn_decimal.proofs.Digits.{digits_value_after-append, digits_value_after_is}

-- the parts of a text
pub parts_of-steps : (text whole rest fraction : List ℕ) (e : ℤ) → digits_of text ≡ whole → after_digits text ≡ rest → fraction_of rest ≡ fraction → exponent_of (after_fraction rest) ≡ Some e → 0 < length whole + length fraction → parts_of text ≡ Some (record { whole = whole; fraction = fraction; exponent = e })
unfolding parts_of
parts_of-steps text whole rest fraction e a b c d some =
    let digits = lt-ltb 0 (length whole + length fraction) some in
    rw (a, b, c, d, digits) refl

-- the magnitude of the parts that the digits, the place of the point and the exponent are read from
pub magnitude_of_parts : (text : List ℕ) (e : ℤ) (up down m : ℕ) → exponent_of (after_fraction (after_digits text)) ≡ Some e → 0 < length (digits_of text) + length (fraction_of (after_digits text)) → up ≡ (if is_negative e then 0 else unsigned_abs e) → down ≡ length (fraction_of (after_digits text)) + (if is_negative e then unsigned_abs e else 0) → m ≡ min (raw_of (units (digits_value_after 10 (digits_value 10 (digits_of text)) (fraction_of (after_digits text))) up down)) (2 ^ 63) → Some m ≡ option_map (λ p. min (magnitude_of p) (2 ^ 63)) (parts_of text)
unfolding magnitude_of
magnitude_of_parts text e up down m exponent some raised lowered value =
    let parts = parts_of-steps text (digits_of text) (after_digits text) (fraction_of (after_digits text)) e refl refl refl exponent some in
    let digits = digits_value_after-append 0 (digits_of text) (fraction_of (after_digits text)) in
    rw (parts, value, raised, lowered, digits) refl

-- digits that end a text
no_exponent : (fraction : List ℕ) → length (digits_of fraction) ≡ length fraction → after_digits fraction ≡ []
no_exponent fraction all =
    let len = length-prefix_len is_ascii_digit fraction in
    drop_all _ fraction (omega arith)

-- a text of digits alone
pub magnitude_of_whole : (text : List ℕ) (m : ℕ) → length (digits_of text) ≡ length text → 0 < length (digits_of text) → m ≡ min (raw_of (units (digits_value 10 (digits_of text) * 10 ^ 0 + 0) 0 0)) (2 ^ 63) → has_magnitude text m
unfolding exponent_of
magnitude_of_whole text m all some value =
    let ends = no_exponent text all in
    let exponent : exponent_of (after_fraction (after_digits text)) ≡ Some (pos 0) = rw ends refl in
    let digits : digits_value 10 (digits_of text) * 10 ^ 0 + 0 ≡ digits_value 10 (digits_of text) = omega arith in
    magnitude_of_parts text (pos 0) 0 0 m exponent (rw ends (omega arith)) refl (rw ends refl) (rw (value, ends, digits) refl)

-- digits, a point, and digits that end the text
pub magnitude_of_short : (text fraction : List ℕ) (m : ℕ) → after_digits text ≡ 46 ∷ fraction → length (digits_of fraction) ≡ length fraction → 0 < length (digits_of fraction) → m ≡ min (raw_of (units (digits_value 10 (digits_of text) * 10 ^ length (digits_of fraction) + digits_value 10 (digits_of fraction)) 0 (length (digits_of fraction)))) (2 ^ 63) → has_magnitude text m
unfolding exponent_of
magnitude_of_short text fraction m rest all some value =
    let ends = no_exponent fraction all in
    let exponent : exponent_of (after_fraction (after_digits text)) ≡ Some (pos 0) = rw (rest, ends) refl in
    let digits = digits_value_after_is (digits_value 10 (digits_of text)) (digits_of fraction) in
    magnitude_of_parts text (pos 0) 0 (length (digits_of fraction)) m exponent (rw rest (omega arith)) refl (rw rest (omega arith)) (rw (value, rest, digits) refl)
