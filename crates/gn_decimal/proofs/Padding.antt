-- Digits that are written from the last to the first.
use Rattle.std.proofs.Common.{◌≡◌, ◌==◌, ◌&&◌, eqb-true, Bool, true, get_or, ℕ, zero, suc, ◌+◌, ◌-◌, ◌*◌, ◌/◌, ◌%◌, ◌^◌, ◌<◌, ◌≤◌, List, [], ◌∷◌, ◌++◌, length, take, drop, set, refl, ap, sym, ◌∙◌, inl, inr, arith, decimal, pow-suc, add-one, append_assoc, length-append, length-set, eq-zero-or-pos, mul_comm, mod-lt, mod-eq_of_lt, div-add-mod', div-one, add_assoc, subst, take-append-drop, add-zero}
use Rattle.std.proofs.Math.Nat.{pow-le-pow_right, div-div-eq-div-mul}
use Rattle.std.proofs.lemmas.Bool.{and_parts, cases_lt}
use Rattle.std.proofs.lemmas.Fmt.{decimal_by_steps, decimal_is_IsNumeral, length-decimal-le}
use Rattle.std.proofs.lemmas.List.{drop-set, length_push, take-set, take-take, take_more_set, take_at, length-take-le}
use Rattle.std.proofs.lemmas.Nat.{mod-mul-add}
use Rattle.gn_decimal.specs.Decimal.{fraction_digits, nearest, ten_billionths_of}
use Rattle.gn_decimal.specs.Padded.{padded}
use Rattle.gn_decimal.specs.declared.printer.TheConstants.{PAIRS}
use Rattle.gn_decimal.proofs.Digits.{digits_value-below, list_all-from_AllDigits}
use Rattle.gn_decimal.proofs.Nearest.{nearest-within, nearest_scaled, nearest_shifted}
use Rattle.gn_decimal.proofs.Printing.{first_digit, fraction_digits-more, fraction_digits-none, no_places}
use Rattle.gn_decimal.proofs.Units.{pow_ten_pos}

-- ---- whole numbers

pub padded_decimal : (n : ℕ) → n < 2 ^ 64 → padded (length (decimal n)) n ≡ decimal n
unfolding padded
padded_decimal n h = decimal_by_steps (λ m ds. padded (length ds) m ≡ ds) (λ m lt. ap (λ d. (48 + d) ∷ []) (mod-eq_of_lt lt)) (λ m ds ge front. rw (length_push, add-one, front) refl) n h

-- a number of `count` digits
pub length_decimal_is : (n count : ℕ) → 0 < count → n < 10 ^ count → n < 2 ^ 64 → (1 < count → 10 ^ (count - 1) ≤ n) → length (decimal n) ≡ count
length_decimal_is n count some below fits least =
    let numeral = decimal_is_IsNumeral n fits in
    let most = length-decimal-le count n some below fits in
    let value = digits_value-below (decimal n) (list_all-from_AllDigits (decimal n) numeral.0.1) in
    elim (cases_lt (length (decimal n)) count) [
      | inl lt ↦ let more = least (omega (arith, numeral.0.0)) in
          let power = pow-le-pow_right {n = 10} (omega arith) {i = length (decimal n)} {j = count - 1} (omega arith) in
          absurd (omega (arith, numeral.1))
      | inr ge ↦ omega arith
    ]

-- ---- fractions

-- the digits behind the first one
remainder_parts : (n places : ℕ) → (n % 10 ^ suc places / 10 ≡ n / 10 % 10 ^ places) × (n % 10 ^ suc places % 10 ≡ n % 10)
remainder_parts n places =
    let p = 10 ^ places in
    let low : n / 10 % 10 ^ places * 10 + n % 10 < 10 ^ places * 10 = omega (arith, mod-lt (n / 10) (pow_ten_pos places)) in
    let front = ap (λ x. x * 10) (div-add-mod' (n / 10) (10 ^ places)) in
    let whole : n ≡ n / 10 / 10 ^ places * (10 ^ places * 10) + (n / 10 % 10 ^ places * 10 + n % 10) = omega arith in
    let rest : n % 10 ^ suc places ≡ n / 10 % 10 ^ places * 10 + n % 10 = ap (λ w. n % w) (pow-suc 10 places) ∙ ap (λ x. x % (10 ^ places * 10)) whole ∙ mod-mul-add (n / 10 / 10 ^ places) (10 ^ places * 10) (n / 10 % 10 ^ places * 10 + n % 10) low in
    (omega arith, omega arith)

-- a zero at the end is left out
pub fraction_digits_zero : (places n : ℕ) → n < 10 ^ suc places → n % 10 ≡ 0 → fraction_digits (suc places) n ≡ fraction_digits places (n / 10)
fraction_digits_zero zero n h z =
    let none : n ≡ 0 = omega arith in
    ap (fraction_digits 1) none ∙ fraction_digits-none 1 ∙ sym (no_places (n / 10))
fraction_digits_zero (suc places) n h z =
    elim (eq-zero-or-pos n) [
      | inl none ↦ let front : n / 10 ≡ 0 = omega arith in
          ap (fraction_digits (suc (suc places))) none ∙ fraction_digits-none (suc (suc places)) ∙ sym (ap (fraction_digits (suc places)) front ∙ fraction_digits-none (suc places))
      | inr some ↦ let rest = remainder_parts n places in
          let front : 0 < n / 10 = omega arith in
          let first : n / 10 / 10 ^ places ≡ n / 10 ^ suc places = div-div-eq-div-mul n 10 (10 ^ places) ∙ ap (λ w. n / w) (mul_comm 10 (10 ^ places) ∙ sym (pow-suc 10 places)) in
          let more = fraction_digits_zero places (n % 10 ^ suc places) (mod-lt n (pow_ten_pos (suc places))) (rest.1 ∙ z) in
          rw (fraction_digits-more (suc places) n some, fraction_digits-more places (n / 10) front, first, more, rest.0) refl
    ]

pub padded_none : (n : ℕ) → padded 0 n ≡ []
unfolding padded
padded_none n = refl

padded_first : (k n : ℕ) → padded (suc k) n ≡ (48 + n / 10 ^ k % 10) ∷ padded k n
unfolding padded
padded_first zero n = ap (λ d. (48 + d % 10) ∷ []) (sym (div-one n))
padded_first (suc k) n =
    let first : n / 10 / 10 ^ k ≡ n / 10 ^ suc k = div-div-eq-div-mul n 10 (10 ^ k) ∙ ap (λ w. n / w) (mul_comm 10 (10 ^ k) ∙ sym (pow-suc 10 k)) in
    let front = padded_first k (n / 10) in
    ap (λ ds. ds ++ (48 + n % 10) ∷ []) front ∙ ap (λ d. (48 + d % 10) ∷ (padded k (n / 10) ++ (48 + n % 10) ∷ [])) first

padded_low : (k n : ℕ) → padded k (n % 10 ^ k) ≡ padded k n
unfolding padded
padded_low zero n = refl
padded_low (suc k) n = let rest = remainder_parts n k in rw (rest.0, rest.1, padded_low k (n / 10)) refl

-- and else all digits are written
pub fraction_digits_padded : (places n : ℕ) → n < 10 ^ places → 0 < n % 10 → fraction_digits places n ≡ padded places n
fraction_digits_padded zero n h last = absurd (omega arith)
fraction_digits_padded (suc zero) n h last =
    let digit : n / 10 ^ 0 % 10 ≡ n / 10 ^ 0 = omega arith in
    rw (fraction_digits-more 0 n (omega arith), no_places (n % 10 ^ 0), padded_first 0 n, padded_none n, digit) refl
fraction_digits_padded (suc (suc places)) n h last =
    let rest = remainder_parts n places in
    let first = first_digit (suc places) n h in
    let digit : n / 10 ^ suc places % 10 ≡ n / 10 ^ suc places = mod-eq_of_lt first.0 in
    let more = fraction_digits_padded (suc places) (n % 10 ^ suc places) first.1 (omega arith) in
    rw (fraction_digits-more (suc places) n (omega arith), more, padded_low (suc places) n, padded_first (suc places) n, digit) refl

-- ---- the parts of a printed number

pub ten_billionths_parts : (n : ℕ) → ten_billionths_of n ≡ n / 2 ^ 32 * 10 ^ 10 + nearest (n % 2 ^ 32 * 9765625) (2 ^ 22)
ten_billionths_parts n =
    let whole = n / 2 ^ 32 in
    let part = n % 2 ^ 32 in
    let split : n * 10 ^ 10 ≡ 2 * (n / 2 ^ 32 * 5000000000) * 2 ^ 32 + n % 2 ^ 32 * 9765625 * 2 ^ 10 = omega arith in
    let scaled = nearest_scaled (part * 9765625) (2 ^ 22) (2 ^ 10) (omega arith) in
    rw (split, nearest_shifted (whole * 5000000000) (part * 9765625 * 2 ^ 10) (2 ^ 32) (omega arith)) (omega arith)

pub ten_billionths_below : (part : ℕ) → part < 2 ^ 32 → nearest (part * 9765625) (2 ^ 22) < 10 ^ 10
ten_billionths_below part h = let near = nearest-within (part * 9765625) (2 ^ 22) (omega arith) in omega arith

-- ---- one step of each loop

pub padded_more : (k n : ℕ) → padded (k + 1) n ≡ padded k (n / 10) ++ (48 + n % 10) ∷ []
unfolding padded
padded_more k n = rw add-one refl

pub record IsShorter (places n : ℕ) : Type 0 where
  pub some : 0 < n / 10
  pub below : n / 10 < 10 ^ (places - 1)
  pub same : fraction_digits (places - 1) (n / 10) ≡ fraction_digits places n
  pub within : 0 < places

pub without_zero : (places n : ℕ) → 0 < n → n < 10 ^ places → n % 10 ≡ 0 → IsShorter places n
without_zero zero n some below z = absurd (omega arith)
without_zero (suc places) n some below z =
    let power = pow-suc 10 places in
    let less : suc places - 1 ≡ places = omega arith in
    record {
      some = omega arith;
      below = rw less (omega arith);
      same = rw less (sym (fraction_digits_zero places n below z));
      within = omega arith;
    }

-- one digit more before those that are written
step_digits : (k left at : ℕ) (into rest : List ℕ) → at + k < length into → padded (k + 1) left ++ drop (at + (k + 1)) into ≡ rest → padded k (left / 10) ++ drop (at + k) (set into (at + k) (48 + left % 10)) ≡ rest
step_digits k left at into rest room before =
    let split = rw (padded_more k left, append_assoc) at before in
    rw (drop-set into (at + k) (48 + left % 10) room, add_assoc at k 1) split

pub write_step : (place left at : ℕ) (into rest : List ℕ) → 0 < place → at + place ≤ length into → padded place left ++ drop (at + place) into ≡ rest → padded (place - 1) (left / 10) ++ drop (at + (place - 1)) (set into (at + (place - 1)) (48 + left % 10)) ≡ rest
write_step place left at into rest some room before =
    let next : place ≡ place - 1 + 1 = omega arith in
    let same = subst (λ p. padded p left ++ drop (at + p) into ≡ rest) next before in
    step_digits (place - 1) left at into rest (omega arith) same

-- two digits more before those that are written
pub write_two : (place left at : ℕ) (into rest : List ℕ) → 1 < place → at + place ≤ length into → padded place left ++ drop (at + place) into ≡ rest → padded (place - 2) (left / 100) ++ drop (at + (place - 2)) (set (set into (at + (place - 2) + 1) (48 + left % 100 % 10)) (at + (place - 2)) (48 + left % 100 / 10)) ≡ rest
write_two place left at into rest some room before =
    let ones = set into (at + (place - 1)) (48 + left % 10) in
    let len : length (set into (at + (place - 1)) (48 + left % 10)) ≡ length into = length-set into (at + (place - 1)) (48 + left % 10) in
    let one = write_step place left at into rest (omega arith) room before in
    let two = write_step (place - 1) (left / 10) at ones rest (omega arith) (omega arith) one in
    let less : place - 2 ≡ place - 1 - 1 = omega arith in
    let behind : at + (place - 1 - 1) + 1 ≡ at + (place - 1) = omega arith in
    let tens : left / 100 ≡ left / 10 / 10 = omega arith in
    let last : left % 100 % 10 ≡ left % 10 = omega arith in
    let first : left % 100 / 10 ≡ left / 10 % 10 = omega arith in
    rw (less, behind, tens, last, first) two

pub take_less : (m n : ℕ) (xs ys : List ℕ) → m ≤ n → take n xs ≡ take n ys → take m xs ≡ take m ys
take_less m n xs ys h e = sym (take-take m n xs h) ∙ ap (take m) e ∙ take-take m n ys h

-- all digits are written
pub write_end : (place left at : ℕ) (into old rest : List ℕ) → place ≤ 0 → padded place left ++ drop (at + place) into ≡ rest → take (at + place) into ≡ take (at + place) old → into ≡ take at old ++ rest
write_end place left at into old rest none digits before =
    let zero : place ≡ 0 = omega arith in
    let behind = rw (padded_none left, add-zero at) at (subst (λ p. padded p left ++ drop (at + p) into ≡ rest) zero digits) in
    let front = rw (add-zero at) at (subst (λ p. take (at + p) into ≡ take (at + p) old) zero before) in
    sym (take-append-drop at into) ∙ ap (λ xs. xs ++ drop at into) front ∙ ap (λ ys. take at old ++ ys) behind

-- and the first one of an odd number of digits
pub write_last : (place left at : ℕ) (into old rest : List ℕ) → 0 < place → place ≤ 1 → at + place ≤ length into → padded place left ++ drop (at + place) into ≡ rest → take (at + place) into ≡ take (at + place) old → set into at (48 + left % 10) ≡ take at old ++ rest
write_last place left at into old rest some one room digits before =
    let written = set into at (48 + left % 10) in
    let first : at + (place - 1) ≡ at = omega arith in
    let step = write_step place left at into rest some room digits in
    let behind = subst (λ k. padded (place - 1) (left / 10) ++ drop (at + (place - 1)) (set into k (48 + left % 10)) ≡ rest) first step in
    let front = take-set into at (48 + left % 10) ∙ take_less at (at + place) into old (omega arith) before in
    write_end (place - 1) (left / 10) at written old rest (omega arith) behind (rw first front)

pub write_one : (xs : List ℕ) (at y : ℕ) → at < length xs → take (at + 1) (set xs at y) ≡ take at xs ++ y ∷ []
write_one xs at y room = take_more_set xs at y room

pub take_written : (at count n : ℕ) (old rest : List ℕ) → at ≤ length old → count ≡ length (decimal n) → n < 2 ^ 64 → take (at + count) (take at old ++ (padded count n ++ rest)) ≡ take at old ++ decimal n
take_written at count n old rest h e fits =
    let text = padded_decimal n fits in
    let len = length-append (take at old) (decimal n) in
    let front = length-take-le at old h in
    rw (e, text, ← append_assoc (take at old) (decimal n) rest) (take_at (take at old ++ decimal n) rest (at + length (decimal n)) (omega arith))

-- the digits of each pair
abbrev are_pairs : ℕ → Bool
are_pairs zero = true
are_pairs (suc n) = (get_or PAIRS (n * 2) 0 == 48 + n / 10 && get_or PAIRS (n * 2 + 1) 0 == 48 + n % 10) && are_pairs n

pair_below : (count n : ℕ) → are_pairs count ≡ true → n < count → (get_or PAIRS (n * 2) 0 ≡ 48 + n / 10) × (get_or PAIRS (n * 2 + 1) 0 ≡ 48 + n % 10)
pair_below zero n h below = absurd (omega arith)
pair_below (suc count) n h below =
    let parts = and_parts (get_or PAIRS (count * 2) 0 == 48 + count / 10 && get_or PAIRS (count * 2 + 1) 0 == 48 + count % 10) (are_pairs count) h in
    elim (cases_lt n count) [
      | inl lt ↦ pair_below count n parts.1 lt
      | inr ge ↦ let same : n ≡ count = omega arith in
          let here = and_parts (get_or PAIRS (count * 2) 0 == 48 + count / 10) (get_or PAIRS (count * 2 + 1) 0 == 48 + count % 10) parts.0 in
          rw same (eqb-true _ _ here.0, eqb-true _ _ here.1)
    ]

pub pair_at : (n : ℕ) → n < 100 → (get_or PAIRS (n * 2) 0 ≡ 48 + n / 10) × (get_or PAIRS (n * 2 + 1) 0 ≡ 48 + n % 10)
pair_at n below = pair_below 100 n refl below
