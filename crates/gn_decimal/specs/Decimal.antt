-- What number a decimal text is, and what text a fixed number is printed as.
use Rattle.std.specs.Prelude.{◌≡◌, min, ℕ, zero, suc, ◌+◌, ◌*◌, ◌/◌, ◌%◌, ◌^◌, Bool, not, ◌&&◌, ◌||◌, ◌==◌, nat_lt, nat_le, if◌then◌else◌, List, [], ◌∷◌, ◌++◌, length, drop, Option, Some, None, option_map, take_while, ℤ, pos, neg_ℤ, slice_index, unsigned_abs}
use Rattle.std.specs.List.{list_all, prefix_len}
use Rattle.std.specs.Char.{is_ascii_digit}
use Rattle.std.specs.Int.{is_negative}
use Rattle.std.specs.Fmt.{decimal}
use Rattle.std.specs.Str.Parse.{digits_value, starts_with_minus, without_leading_sign}
use Rattle.gn_value.specs.Arithmetic.{sat}

-- the whole number nearest to a / b, and the even one of two that are equally near
unfoldable pub nearest : ℕ → ℕ → ℕ
nearest a b =
    if nat_lt (2 * (a % b)) b then a / b
    else (if nat_lt b (2 * (a % b)) then a / b + 1 else a / b + a / b % 2)

-- n, or -n
abbrev pub with_sign : Bool → ℕ → ℤ
with_sign negative n = if negative then neg_ℤ (pos n) else pos n

-- ---- the parts of a text

-- `12.50e-3` has the whole digits `12`, the fraction digits `50` and the exponent -3
pub record Parts : Type 0 where
  pub whole : List ℕ
  pub fraction : List ℕ
  pub exponent : ℤ

-- the digits that a text begins with, and what follows them
abbrev pub digits_of : List ℕ → List ℕ
digits_of text = take_while is_ascii_digit text

abbrev pub after_digits : List ℕ → List ℕ
after_digits text = drop (prefix_len is_ascii_digit text) text

-- the text begins with a point
abbrev pub has_point : List ℕ → Bool
has_point text = slice_index text 0 == 46

-- the digits behind the point, where there is one, and what follows them
abbrev pub fraction_of : List ℕ → List ℕ
fraction_of text = if has_point text then digits_of (drop 1 text) else []

abbrev pub after_fraction : List ℕ → List ℕ
after_fraction text = if has_point text then after_digits (drop 1 text) else text

-- the value of a text that is at least one digit and nothing else, if it is at most 99
unfoldable pub small_number : List ℕ → Option ℕ
small_number digits =
    if nat_lt 0 (length digits) && (list_all is_ascii_digit digits && nat_le (digits_value 10 digits) 99)
    then Some (digits_value 10 digits)
    else None

-- what stands behind an `e`: perhaps a sign, and such a number
unfoldable pub signed_exponent : List ℕ → Option ℤ
signed_exponent text = option_map (with_sign (starts_with_minus text)) (small_number (without_leading_sign text))

-- what stands behind the digits: nothing, which is the exponent 0, or `e` or `E` and an exponent
unfoldable pub exponent_of : List ℕ → Option ℤ
exponent_of [] = Some (pos 0)
exponent_of (c ∷ text) = if c == 101 || c == 69 then signed_exponent text else None

-- the parts of a number without its sign: digits with at most one point before, among or behind them and at least one digit, and perhaps an exponent
unfoldable pub parts_of : List ℕ → Option Parts
parts_of text =
    let whole = digits_of text in
    let rest = after_digits text in
    if nat_lt 0 (length whole + length (fraction_of rest))
    then option_map (λ e. record { whole = whole; fraction = fraction_of rest; exponent = e }) (exponent_of (after_fraction rest))
    else None

-- ---- the number of a text

-- the number of the parts is digits_number p * 10 ^ tens_up p / 10 ^ tens_down p
abbrev pub digits_number : Parts → ℕ
digits_number p = digits_value 10 (p.whole ++ p.fraction)

abbrev pub tens_up : Parts → ℕ
tens_up p = if is_negative p.exponent then 0 else unsigned_abs p.exponent

abbrev pub tens_down : Parts → ℕ
tens_down p = length p.fraction + (if is_negative p.exponent then unsigned_abs p.exponent else 0)

-- digits * 10 ^ up / 10 ^ down in units of 10 ^ -18, rounded down
unfoldable pub units : ℕ → ℕ → ℕ → ℕ
units digits up down = digits * 10 ^ up * 10 ^ 18 / 10 ^ down

-- as many units in parts of 2 ^ -32, rounded to the nearest
unfoldable pub raw_of : ℕ → ℕ
raw_of n = nearest (n * 2 ^ 32) (10 ^ 18)

unfoldable pub magnitude_of : Parts → ℕ
magnitude_of p = raw_of (units (digits_number p) (tens_up p) (tens_down p))

-- the text of no sign is a number with that absolute raw number, up to the greatest
abbrev pub has_magnitude : List ℕ → ℕ → Type 0
has_magnitude text m = Some m ≡ option_map (λ p. min (magnitude_of p) (2 ^ 63)) (parts_of text)

-- the raw number of a text, if it is a number
unfoldable pub num : List ℕ → Option ℤ
num text = option_map (λ p. sat (with_sign (starts_with_minus text) (magnitude_of p))) (parts_of (without_leading_sign text))

-- ---- the text of a number

-- the digits of the fraction n / 10 ^ places, up to the last that is not 0
unfoldable pub fraction_digits : ℕ → ℕ → List ℕ
fraction_digits zero n = []
fraction_digits (suc places) n = if n == 0 then [] else (48 + n / 10 ^ places) ∷ fraction_digits places (n % 10 ^ places)

-- a point and the digits of the fraction n / 10 ^ 10, and nothing for 0
abbrev pub point_and_digits : ℕ → List ℕ
point_and_digits n = if n == 0 then [] else 46 ∷ fraction_digits 10 n

-- n ten-billionths as a text
abbrev pub ten_billionths_text : ℕ → List ℕ
ten_billionths_text n = decimal (n / 10 ^ 10) ++ point_and_digits (n % 10 ^ 10)

-- how many ten-billionths are nearest to the raw number n
abbrev pub ten_billionths_of : ℕ → ℕ
ten_billionths_of n = nearest (n * 10 ^ 10) (2 ^ 32)

-- a minus where the multiple of a ten-billionth is below zero
abbrev pub minus_for : Bool → ℕ → List ℕ
minus_for negative n = if negative && not (n == 0) then 45 ∷ [] else []

-- the text of a raw number
unfoldable pub dec : ℤ → List ℕ
dec z =
    let n = ten_billionths_of (unsigned_abs z) in
    minus_for (is_negative z) n ++ ten_billionths_text n

-- the bytes that such a text is made of: digits, a minus and a point
abbrev pub is_number_byte : ℕ → Bool
is_number_byte c = is_ascii_digit c || (c == 45 || c == 46)
