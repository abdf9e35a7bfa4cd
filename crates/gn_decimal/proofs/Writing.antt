-- The text of a raw number, from the parts that are written one after another.
use Rattle.std.proofs.Common.{◌≡◌, ℕ, suc, ◌*◌, ◌/◌, ◌%◌, ◌^◌, ◌<◌, List, [], ◌∷◌, ◌++◌, ℤ, pos, negsuc, FitsSigned, w64, decimal, unsigned_abs, refl, ap, ◌∙◌, append_assoc, arith, if◌then◌else◌, le-ltb, ne_eqb, true, false, ◌==◌, ◌||◌}
use Rattle.std.specs.Int.{is_negative}
use Rattle.gn_decimal.specs.Decimal.{dec, fraction_digits, is_number_byte, nearest, point_and_digits, ten_billionths_of, ten_billionths_text}
use Rattle.gn_decimal.proofs.Digits.{list_all-from_AllDigits}
use Rattle.gn_decimal.proofs.Nearest.{ten_billionths-fits, ten_billionths-pos}
use Rattle.gn_decimal.proofs.Printing.{fraction_digits-all}
use Rattle.std.specs.Char.{is_ascii_digit}
use Rattle.std.specs.List.{list_all}
use Rattle.std.proofs.lemmas.Bool.{and_from, and_parts, or_left}
use Rattle.std.proofs.lemmas.Fmt.{decimal_is_IsNumeral}
use Rattle.gn_decimal.proofs.Padding.{ten_billionths_below, ten_billionths_parts}

text_of_parts : (n : ℕ) → ten_billionths_text (ten_billionths_of n) ≡ decimal (n / 2 ^ 32) ++ point_and_digits (nearest (n % 2 ^ 32 * 9765625) (2 ^ 22))
text_of_parts n =
    let parts = ten_billionths_parts n in
    let below = ten_billionths_below (n % 2 ^ 32) (omega arith) in
    let whole : ten_billionths_of n / 10 ^ 10 ≡ n / 2 ^ 32 = omega arith in
    let rest : ten_billionths_of n % 10 ^ 10 ≡ nearest (n % 2 ^ 32 * 9765625) (2 ^ 22) = omega arith in
    rw (whole, rest) refl

pub dec_parts : (z : ℤ) → ((if is_negative z then 45 ∷ [] else []) ++ decimal (unsigned_abs z / 2 ^ 32)) ++ point_and_digits (nearest (unsigned_abs z % 2 ^ 32 * 9765625) (2 ^ 22)) ≡ dec z
unfolding dec
dec_parts (pos n) =
    let sign = le-ltb n 0 (omega arith) in
    rw (sign, text_of_parts n) refl
dec_parts (negsuc n) =
    let some = ne_eqb (ten_billionths_of (suc n)) 0 (λ e. omega (arith, ten_billionths-pos (suc n) (omega arith))) in
    rw (some, text_of_parts (suc n)) refl

-- the same behind other bytes
pub dec_behind : (front : List ℕ) (z : ℤ) → ((front ++ (if is_negative z then 45 ∷ [] else [])) ++ decimal (unsigned_abs z / 2 ^ 32)) ++ point_and_digits (nearest (unsigned_abs z % 2 ^ 32 * 9765625) (2 ^ 22)) ≡ front ++ dec z
dec_behind front z =
    let sign = if is_negative z then 45 ∷ [] else [] in
    let whole = decimal (unsigned_abs z / 2 ^ 32) in
    let point = point_and_digits (nearest (unsigned_abs z % 2 ^ 32 * 9765625) (2 ^ 22)) in
    ap (λ ds. ds ++ point) (append_assoc front sign whole) ∙ append_assoc front (sign ++ whole) point ∙ ap (λ ds. front ++ ds) (dec_parts z)

-- ---- the bytes of a printed text

digits_are_number_bytes : (ds : List ℕ) → list_all is_ascii_digit ds ≡ true → list_all is_number_byte ds ≡ true
digits_are_number_bytes [] h = refl
digits_are_number_bytes (c ∷ cs) h =
    let parts = and_parts (is_ascii_digit c) (list_all is_ascii_digit cs) h in
    and_from _ _ (or_left _ (c == 45 || c == 46) parts.0) (digits_are_number_bytes cs parts.1)

number_bytes-append : (xs ys : List ℕ) → list_all is_number_byte xs ≡ true → list_all is_number_byte ys ≡ true → list_all is_number_byte (xs ++ ys) ≡ true
number_bytes-append [] ys h k = k
number_bytes-append (c ∷ cs) ys h k =
    let parts = and_parts (is_number_byte c) (list_all is_number_byte cs) h in
    and_from _ _ parts.0 (number_bytes-append cs ys parts.1 k)

pub bytes_of_digits : (n : ℕ) → n < 2 ^ 64 → list_all is_number_byte (decimal n) ≡ true
bytes_of_digits n h =
    digits_are_number_bytes (decimal n) (list_all-from_AllDigits (decimal n) (decimal_is_IsNumeral n h).0.1)

pub bytes_of_point : (n : ℕ) → n < 10 ^ 10 → list_all is_number_byte (point_and_digits n) ≡ true
bytes_of_point n h =
    let digits = digits_are_number_bytes (fraction_digits 10 n) (fraction_digits-all 10 n h) in
    elim (n == 0) as (λ b. list_all is_number_byte (if b then [] else 46 ∷ fraction_digits 10 n) ≡ true) [ true ↦ refl | false ↦ digits ]

-- the text of n ten-billionths behind a sign
bytes_of_text : (n : ℕ) (sign : List ℕ) → n < 2 ^ 63 * 10 → list_all is_number_byte sign ≡ true → list_all is_number_byte (sign ++ ten_billionths_text n) ≡ true
bytes_of_text n sign h plain =
    number_bytes-append sign (ten_billionths_text n) plain (number_bytes-append (decimal (n / 10 ^ 10)) (point_and_digits (n % 10 ^ 10)) (bytes_of_digits (n / 10 ^ 10) (omega arith)) (bytes_of_point (n % 10 ^ 10) (omega arith)))

pub bytes_of_dec : (z : ℤ) → FitsSigned w64 z → list_all is_number_byte (dec z) ≡ true
unfolding dec
bytes_of_dec (pos n) h =
    let sign = le-ltb n 0 (omega arith) in
    rw sign (bytes_of_text (ten_billionths_of n) [] (ten_billionths-fits n (omega (arith, h.sfits))) refl)
bytes_of_dec (negsuc n) h =
    let some = ne_eqb (ten_billionths_of (suc n)) 0 (λ e. omega (arith, ten_billionths-pos (suc n) (omega arith))) in
    rw some (bytes_of_text (ten_billionths_of (suc n)) (45 ∷ []) (ten_billionths-fits (suc n) (omega (arith, h.sfits))) refl)
