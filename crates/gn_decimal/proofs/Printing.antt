-- The text of a number is read as that number.
use Rattle.std.proofs.Common.{◌≡◌, ℕ, zero, suc, ◌+◌, ◌*◌, ◌/◌, ◌%◌, ◌^◌, ◌<◌, ◌≤◌, true, false, List, [], ◌∷◌, ◌++◌, length, refl, ap, sym, ◌∙◌, arith, pow-suc, Some, pos, negsuc, ℤ, decimal, inl, inr, FitsSigned, w64, if◌then◌else◌, ◌==◌, mod-lt, div-add-mod', eq-zero-or-pos, ne_eqb, le-ltb, add-zero}
use Rattle.std.proofs.Math.Nat.{one-le-pow, div-eq_of_eq-mul_left}
use Rattle.std.specs.Char.{digit_value, is_ascii_digit}
use Rattle.std.specs.List.{list_all, prefix_len}
use Rattle.std.specs.Str.Parse.{digits_value, starts_with_minus, without_leading_sign}
use Rattle.std.proofs.lemmas.Bool.{and_parts, and_from}
use Rattle.std.proofs.lemmas.Fmt.{decimal_is_IsNumeral}
use Rattle.std.proofs.lemmas.Nat.{pow-add, div_below}
use Rattle.gn_decimal.specs.Decimal.{fraction_digits, point_and_digits, ten_billionths_text, ten_billionths_of, digits_of, after_digits, fraction_of, after_fraction, parts_of, num, dec, magnitude_of, units, Parts, exponent_of}
use Rattle.gn_decimal.proofs.Nearest.{raw_of-ten_billionths, ten_billionths-pos, ten_billionths-fits}
use Rattle.gn_decimal.proofs.Reading.{parts_of-steps}
use Rattle.gn_decimal.proofs.Digits.{digits_value-cons, digits_value-append, is_ascii_digit_from, digit_value_is, digits_of-front, after_digits-front, list_all-from_AllDigits, digits_of-all, after_digits-all}

-- ---- the digits of a fraction

pow_pos' : (k : ℕ) → 0 < 10 ^ k
pow_pos' k = one-le-pow k 10 (omega arith)

pub no_places : (n : ℕ) → fraction_digits zero n ≡ []
unfolding fraction_digits
no_places n = refl

-- what is left of n / 10 ^ (places + 1) behind its first digit
pub first_digit : (places n : ℕ) → n < 10 ^ suc places → (n / 10 ^ places < 10) × (n % 10 ^ places < 10 ^ places) × (n / 10 ^ places * 10 ^ places + n % 10 ^ places ≡ n)
first_digit places n h =
    let power : 0 < 10 ^ places = pow_pos' places in
    let next = pow-suc 10 places in
    (div_below n (10 ^ places) 10 power (omega arith), mod-lt n power, div-add-mod' n (10 ^ places))

pub fraction_digits-none : (places : ℕ) → fraction_digits places 0 ≡ []
unfolding fraction_digits
fraction_digits-none zero = refl
fraction_digits-none (suc places) = refl

pub fraction_digits-more : (places n : ℕ) → 0 < n → fraction_digits (suc places) n ≡ (48 + n / 10 ^ places) ∷ fraction_digits places (n % 10 ^ places)
unfolding fraction_digits
fraction_digits-more places n h = let some = ne_eqb n 0 (λ e. omega arith) in rw some refl

pub fraction_digits-all : (places n : ℕ) → n < 10 ^ places → list_all is_ascii_digit (fraction_digits places n) ≡ true
fraction_digits-all zero n h = ap (list_all is_ascii_digit) (no_places n)
fraction_digits-all (suc places) n h =
    elim (eq-zero-or-pos n) [
      | inl z ↦ ap (list_all is_ascii_digit) (ap (fraction_digits (suc places)) z ∙ fraction_digits-none (suc places))
      | inr p ↦ let f = first_digit places n h in
          let rest = fraction_digits-all places (n % 10 ^ places) f.1 in
          let digit = is_ascii_digit_from (n / 10 ^ places) f.0 in
          rw (fraction_digits-more places n p) (and_from _ _ digit rest)
    ]

-- the zeros that are left out make the digits worth n
pub fraction_digits-value : (places n : ℕ) → n < 10 ^ places → (zeros : ℕ) × (length (fraction_digits places n) + zeros ≡ places) × (digits_value 10 (fraction_digits places n) * 10 ^ zeros ≡ n)
fraction_digits-value zero n h = let none = no_places n in (0, rw none refl, rw none (omega arith))
fraction_digits-value (suc places) n h =
    elim (eq-zero-or-pos n) [
      | inl z ↦ let none : fraction_digits (suc places) n ≡ [] = ap (fraction_digits (suc places)) z ∙ fraction_digits-none (suc places) in (suc places, rw none (omega arith), rw none (omega arith))
      | inr p ↦ let f = first_digit places n h in
          let rest = fraction_digits-value places (n % 10 ^ places) f.1 in
          let ds = fraction_digits places (n % 10 ^ places) in
          let digit = digit_value_is (48 + n / 10 ^ places) (is_ascii_digit_from (n / 10 ^ places) f.0) in
          let more = fraction_digits-more places n p in
          let powers : 10 ^ places ≡ 10 ^ length ds * 10 ^ rest.0 = ap (λ k. 10 ^ k) (sym rest.1) ∙ pow-add 10 (length ds) rest.0 in
          let first : digit_value (48 + n / 10 ^ places) ≡ n / 10 ^ places = omega arith in
          let moved = ap (λ x. n / 10 ^ places * x) powers in
          (rest.0, rw more (omega (arith, rest.1)), rw (more, digits_value-cons, first) (omega (arith, rest.2, f.2)))
    ]

-- ---- the parts of a printed text

-- what stands behind the whole part
module _ (n : ℕ) (fits : n < 10 ^ 10) where
  point_ends : prefix_len is_ascii_digit (point_and_digits n) ≡ 0
  point_ends =
      elim (n == 0) as (λ b. prefix_len is_ascii_digit (if b then [] else 46 ∷ fraction_digits 10 n) ≡ 0) [ true ↦ refl | false ↦ refl ]

  point_more : 0 < n → point_and_digits n ≡ 46 ∷ fraction_digits 10 n
  point_more p = let some = ne_eqb n 0 (λ e. omega arith) in rw some refl

  pub fraction_of-point : fraction_of (point_and_digits n) ≡ fraction_digits 10 n
  fraction_of-point =
      elim (eq-zero-or-pos n) [
        | inl z ↦ ap (λ m. fraction_of (point_and_digits m)) z ∙ sym (ap (fraction_digits 10) z ∙ fraction_digits-none 10)
        | inr p ↦ ap fraction_of (point_more p) ∙ digits_of-all (fraction_digits 10 n) (fraction_digits-all 10 n fits)
      ]

  pub after_fraction-point : after_fraction (point_and_digits n) ≡ []
  after_fraction-point =
      elim (eq-zero-or-pos n) [
        | inl z ↦ ap (λ m. after_fraction (point_and_digits m)) z
        | inr p ↦ ap after_fraction (point_more p) ∙ after_digits-all (fraction_digits 10 n) (fraction_digits-all 10 n fits)
      ]

-- a text of ten-billionths splits into its two runs of digits
module _ (n : ℕ) (fits : n < 2 ^ 63 * 10) where
  whole_digits : list_all is_ascii_digit (decimal (n / 10 ^ 10)) ≡ true
  whole_digits = list_all-from_AllDigits (decimal (n / 10 ^ 10)) (decimal_is_IsNumeral (n / 10 ^ 10) (omega arith)).0.1

  pub digits_of-text : digits_of (ten_billionths_text n) ≡ decimal (n / 10 ^ 10)
  digits_of-text =
      digits_of-front (decimal (n / 10 ^ 10)) (point_and_digits (n % 10 ^ 10)) whole_digits (point_ends (n % 10 ^ 10) (omega arith))

  pub after_digits-text : after_digits (ten_billionths_text n) ≡ point_and_digits (n % 10 ^ 10)
  after_digits-text =
      after_digits-front (decimal (n / 10 ^ 10)) (point_and_digits (n % 10 ^ 10)) whole_digits (point_ends (n % 10 ^ 10) (omega arith))

-- a text that begins with a digit has no sign
unsigned_digits : (ds rest : List ℕ) → list_all is_ascii_digit ds ≡ true → 0 < length ds → (starts_with_minus (ds ++ rest) ≡ false) × (without_leading_sign (ds ++ rest) ≡ ds ++ rest)
unsigned_digits [] rest all some = absurd (omega arith)
unsigned_digits (c ∷ cs) rest all some =
    let digit = digit_value_is c (and_parts (is_ascii_digit c) (list_all is_ascii_digit cs) all).0 in
    let minus = ne_eqb c 45 (λ e. omega arith) in
    let plus = ne_eqb c 43 (λ e. omega arith) in
    (minus, rw (minus, plus) refl)

text_parts : ℕ → Parts
text_parts n = record { whole = decimal (n / 10 ^ 10); fraction = fraction_digits 10 (n % 10 ^ 10); exponent = pos 0 }

-- ---- the number of a printed text

-- ten places hold each digit that is printed, so no unit is rounded away
scaled : (d w v r p l z : ℕ) → p ≡ l * z → d ≡ w * l + v → v * z ≡ r → d * (10 ^ 8 * p) ≡ (w * p + r) * 10 ^ 8 * l
scaled d w v r p l z power digits rest = rw (power, digits, ← rest) (omega arith)

units_of-places : (d w v r places zeros : ℕ) → places + zeros ≡ 10 → d ≡ w * 10 ^ places + v → v * 10 ^ zeros ≡ r → units d 0 (places + 0) ≡ (w * 10 ^ 10 + r) * 10 ^ 8
unfolding units
units_of-places d w v r places zeros ten digits rest =
    let power : 10 ^ 10 ≡ 10 ^ places * 10 ^ zeros = ap (λ k. 10 ^ k) (sym ten) ∙ pow-add 10 places zeros in
    let same = scaled d w v r (10 ^ 10) (10 ^ places) (10 ^ zeros) power digits rest in
    let product : d * 10 ^ 0 * 10 ^ 18 ≡ (w * 10 ^ 10 + r) * 10 ^ 8 * 10 ^ places = omega arith in
    rw add-zero (div-eq_of_eq-mul_left (pow_pos' places) product)

module _ (n : ℕ) (fits : n < 2 ^ 63 * 10) where
  fraction_fits : n % 10 ^ 10 < 10 ^ 10
  fraction_fits = omega arith

  whole_is : digits_value 10 (decimal (n / 10 ^ 10)) ≡ n / 10 ^ 10
  whole_is = (decimal_is_IsNumeral (n / 10 ^ 10) (omega arith)).1

  whole_nonempty : 0 < length (decimal (n / 10 ^ 10))
  whole_nonempty = (decimal_is_IsNumeral (n / 10 ^ 10) (omega arith)).0.0

  units_of-text : units (digits_value 10 (decimal (n / 10 ^ 10) ++ fraction_digits 10 (n % 10 ^ 10))) 0 (length (fraction_digits 10 (n % 10 ^ 10)) + 0) ≡ n * 10 ^ 8
  units_of-text =
      let ds = fraction_digits 10 (n % 10 ^ 10) in
      let value = fraction_digits-value 10 (n % 10 ^ 10) fraction_fits in
      let both : digits_value 10 (decimal (n / 10 ^ 10) ++ ds) ≡ n / 10 ^ 10 * 10 ^ length ds + digits_value 10 ds = rw (digits_value-append, whole_is) refl in
      let units_are = units_of-places _ (n / 10 ^ 10) (digits_value 10 ds) (n % 10 ^ 10) (length ds) value.0 value.1 both value.2 in
      units_are ∙ omega arith

  parts_of-text : parts_of (ten_billionths_text n) ≡ Some (text_parts n)
  unfolding text_parts exponent_of
  parts_of-text =
      parts_of-steps (ten_billionths_text n) _ _ _ _ (digits_of-text n fits) (after_digits-text n fits) (fraction_of-point (n % 10 ^ 10) fraction_fits) (ap exponent_of (after_fraction-point (n % 10 ^ 10) fraction_fits)) (omega (arith, whole_nonempty))

  no_sign : (starts_with_minus (ten_billionths_text n) ≡ false) × (without_leading_sign (ten_billionths_text n) ≡ ten_billionths_text n)
  no_sign = unsigned_digits (decimal (n / 10 ^ 10)) (point_and_digits (n % 10 ^ 10)) (whole_digits n fits) whole_nonempty

-- ---- reading a printed number gives the number back

-- the raw number n without its sign
magnitude_of-text : (n : ℕ) → n ≤ 2 ^ 63 → magnitude_of (text_parts (ten_billionths_of n)) ≡ n
unfolding magnitude_of text_parts
magnitude_of-text n h = rw (units_of-text (ten_billionths_of n) (ten_billionths-fits n h), raw_of-ten_billionths n) refl

num-dec_pos : (n : ℕ) → n < 2 ^ 63 → num (dec (pos n)) ≡ Some (pos n)
unfolding num dec
num-dec_pos n h =
    let t = ten_billionths_of n in
    let fits = ten_billionths-fits n (omega arith) in
    let sign = le-ltb n 0 (omega arith) in
    let bare = no_sign t fits in
    rw (sign, bare.1, bare.0, parts_of-text t fits, magnitude_of-text n (omega arith)) (ap (λ m. Some (pos m)) (omega arith))

num-dec_negsuc : (n : ℕ) → n < 2 ^ 63 → num (dec (negsuc n)) ≡ Some (negsuc n)
unfolding num dec
num-dec_negsuc n h =
    let t = ten_billionths_of (suc n) in
    let fits = ten_billionths-fits (suc n) (omega arith) in
    let some = ne_eqb t 0 (λ e. omega (arith, ten_billionths-pos (suc n) (omega arith))) in
    rw (some, parts_of-text t fits, magnitude_of-text (suc n) (omega arith)) (ap (λ m. Some (negsuc m)) (omega arith))

pub num_dec : (z : ℤ) → FitsSigned w64 z → num (dec z) ≡ Some z
num_dec (pos n) h = num-dec_pos n h.sfits
num_dec (negsuc n) h = num-dec_negsuc n h.sfits
