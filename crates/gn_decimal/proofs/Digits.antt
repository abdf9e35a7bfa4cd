-- What a list of digits is worth, and where the digits at the front of a text end.
use Rattle.std.proofs.Common.{◌≡◌, ℕ, ◌+◌, ◌-◌, ◌*◌, ◌^◌, ◌<◌, ◌≤◌, min, true, false, List, [], ◌∷◌, ◌++◌, length, take, drop, get_or, refl, ap, sym, ◌∙◌, arith, pow-suc, mul-le-mul_right}
use Rattle.std.specs.Char.{digit_value, is_ascii_digit}
use Rattle.std.specs.List.{list_all, prefix_len}
use Rattle.std.specs.Str.Parse.{AllDigits, digits_value, digits_value_after}
use Rattle.std.proofs.lemmas.Bool.Decides.{nat_tests}
use Rattle.std.proofs.lemmas.Bool.{and_parts, and_from}
use Rattle.std.proofs.lemmas.List.{take_at, drop_at, take_all, drop_all, take_more, length-take, length-take-le, take-append-drop}
use Rattle.std.proofs.lemmas.List.Folds.{prefix_len-append}
use Rattle.std.proofs.lemmas.List.Sums.{prefix_len-drop_no}
use Rattle.std.proofs.Math.Nat.{pow-le-pow_right}
use Rattle.std.proofs.lemmas.Str.Parse.{digit_from_value}
use Rattle.std.proofs.lemmas.Int.Digits.{digits_value_more}
use Rattle.gn_decimal.specs.Decimal.{digits_of, after_digits}

-- ---- values

-- digits behind the number n
pub digits_value_after_is : (n : ℕ) (ds : List ℕ) → digits_value_after 10 n ds ≡ n * 10 ^ length ds + digits_value 10 ds
digits_value_after_is n [] = omega arith
digits_value_after_is n (c ∷ cs) =
    let front = digits_value_after_is (n * 10 + digit_value c) cs in
    let here = digits_value_after_is (0 + digit_value c) cs in
    rw (pow-suc 10 (length cs)) (omega arith)

pub digits_value_after-append : (n : ℕ) (xs ys : List ℕ) → digits_value_after 10 n (xs ++ ys) ≡ digits_value_after 10 (digits_value_after 10 n xs) ys
digits_value_after-append n [] ys = refl
digits_value_after-append n (c ∷ cs) ys = digits_value_after-append (n * 10 + digit_value c) cs ys

pub digits_value-append : (xs ys : List ℕ) → digits_value 10 (xs ++ ys) ≡ digits_value 10 xs * 10 ^ length ys + digits_value 10 ys
digits_value-append xs ys = digits_value_after-append 0 xs ys ∙ digits_value_after_is (digits_value 10 xs) ys

pub digits_value-cons : (c : ℕ) (ds : List ℕ) → digits_value 10 (c ∷ ds) ≡ digit_value c * 10 ^ length ds + digits_value 10 ds
digits_value-cons c ds = let front = digits_value_after_is (0 + digit_value c) ds in omega arith

-- ---- bytes that are digits

pub digit_value_is : (c : ℕ) → is_ascii_digit c ≡ true → (48 ≤ c) × (c ≤ 57) × (digit_value c ≡ c - 48)
digit_value_is c h = grind (arith, nat_tests)

pub is_ascii_digit_from : (d : ℕ) → d < 10 → is_ascii_digit (48 + d) ≡ true
is_ascii_digit_from d h = grind (arith, nat_tests)

pub list_all-from_AllDigits : (ds : List ℕ) → AllDigits 10 ds → list_all is_ascii_digit ds ≡ true
list_all-from_AllDigits [] h = refl
list_all-from_AllDigits (c ∷ cs) h =
    let here = digit_from_value c h.0 in
    let rest = list_all-from_AllDigits cs h.1 in
    and_from _ _ (grind (arith, nat_tests)) rest

pub list_all-append : (xs ys : List ℕ) → list_all is_ascii_digit xs ≡ true → list_all is_ascii_digit ys ≡ true → list_all is_ascii_digit (xs ++ ys) ≡ true
list_all-append [] ys h k = k
list_all-append (c ∷ cs) ys h k =
    let parts = and_parts (is_ascii_digit c) (list_all is_ascii_digit cs) h in
    and_from _ _ parts.0 (list_all-append cs ys parts.1 k)

-- digits are worth less than a power of ten
pub digits_value-below : (ds : List ℕ) → list_all is_ascii_digit ds ≡ true → digits_value 10 ds < 10 ^ length ds
digits_value-below [] h = omega arith
digits_value-below (c ∷ cs) h =
    let parts = and_parts (is_ascii_digit c) (list_all is_ascii_digit cs) h in
    let digit = digit_value_is c parts.0 in
    let rest = digits_value-below cs parts.1 in
    let most : digit_value c * 10 ^ length cs ≤ 9 * 10 ^ length cs = mul-le-mul_right (10 ^ length cs) (omega arith) in
    rw (digits_value-cons c cs, pow-suc 10 (length cs)) (omega arith)

-- the same of the first bytes of a text
pub value_below : (xs : List ℕ) (i : ℕ) → list_all is_ascii_digit (take i xs) ≡ true → digits_value 10 (take i xs) < 10 ^ min i (length xs)
value_below xs i all = rw (← length-take i xs) (digits_value-below (take i xs) all)

-- up to eighteen digits fit 64 bits
pub short_value : (xs : List ℕ) (i : ℕ) → i ≤ 18 → list_all is_ascii_digit (take i xs) ≡ true → digits_value 10 (take i xs) < 10 ^ 18
short_value xs i h all =
    let power = pow-le-pow_right {n = 10} (omega arith) {i = min i (length xs)} {j = 18} (omega arith) in
    omega (arith, value_below xs i all)

-- ---- where the digits at the front of a text end

pub prefix_len-all : (ds : List ℕ) → list_all is_ascii_digit ds ≡ true → prefix_len is_ascii_digit ds ≡ length ds
prefix_len-all [] h = refl
prefix_len-all (c ∷ cs) h =
    let parts = and_parts (is_ascii_digit c) (list_all is_ascii_digit cs) h in
    let rest = prefix_len-all cs parts.1 in
    grind (arith, parts.0)

-- digits and then a text that begins with no digit
module _ (ds rest : List ℕ) (all : list_all is_ascii_digit ds ≡ true) (ends : prefix_len is_ascii_digit rest ≡ 0) where
  prefix_len-front : prefix_len is_ascii_digit (ds ++ rest) ≡ length ds
  prefix_len-front =
      let front = prefix_len-all ds all in
      let both = prefix_len-append is_ascii_digit ds rest in
      grind (arith, nat_tests)

  pub digits_of-front : digits_of (ds ++ rest) ≡ ds
  digits_of-front = rw prefix_len-front (take_at ds rest (length ds) refl)

  pub after_digits-front : after_digits (ds ++ rest) ≡ rest
  after_digits-front = rw prefix_len-front (drop_at ds rest (length ds) refl)

pub digits_of-all : (ds : List ℕ) → list_all is_ascii_digit ds ≡ true → digits_of ds ≡ ds
digits_of-all ds all = rw (prefix_len-all ds all) (take_all (length ds) ds (omega arith))

pub after_digits-all : (ds : List ℕ) → list_all is_ascii_digit ds ≡ true → after_digits ds ≡ []
after_digits-all ds all = rw (prefix_len-all ds all) (drop_all (length ds) ds (omega arith))

-- ---- one more digit from the front

pub value_more : (xs : List ℕ) (i : ℕ) → i < length xs → is_ascii_digit (get_or xs i 0) ≡ true → digits_value 10 (take (i + 1) xs) ≡ digits_value 10 (take i xs) * 10 + (get_or xs i 0 - 48)
value_more xs i h digit =
    let here = digit_value_is (get_or xs i 0) digit in
    digits_value_more 10 xs i h ∙ omega arith

-- the same behind the number n
pub value_after_more : (n : ℕ) (xs : List ℕ) (i : ℕ) → i < length xs → is_ascii_digit (get_or xs i 0) ≡ true → digits_value_after 10 n (take (i + 1) xs) ≡ digits_value_after 10 n (take i xs) * 10 + (get_or xs i 0 - 48)
value_after_more n xs i h digit =
    let here = digit_value_is (get_or xs i 0) digit in
    rw (take_more xs i 0 h, digits_value_after-append n (take i xs) (get_or xs i 0 ∷ [])) (omega arith)

pub all_digits_more : (xs : List ℕ) (i : ℕ) → i < length xs → list_all is_ascii_digit (take i xs) ≡ true → is_ascii_digit (get_or xs i 0) ≡ true → list_all is_ascii_digit (take (i + 1) xs) ≡ true
all_digits_more xs i h all here =
    rw (take_more xs i 0 h) (list_all-append (take i xs) (get_or xs i 0 ∷ []) all (and_from _ _ here refl))

-- digits up to a place, and none behind it
pub prefix_len_at : (xs : List ℕ) (i : ℕ) → i ≤ length xs → list_all is_ascii_digit (take i xs) ≡ true → prefix_len is_ascii_digit (drop i xs) ≡ 0 → prefix_len is_ascii_digit xs ≡ i
prefix_len_at xs i h all ends =
    let whole = take-append-drop i xs in
    let front = prefix_len-front (take i xs) (drop i xs) all ends in
    ap (prefix_len is_ascii_digit) (sym whole) ∙ front ∙ length-take-le i xs h

pub prefix_len_stop : (xs : List ℕ) (i : ℕ) → i < length xs → list_all is_ascii_digit (take i xs) ≡ true → is_ascii_digit (get_or xs i 0) ≡ false → prefix_len is_ascii_digit xs ≡ i
prefix_len_stop xs i h all other =
    prefix_len_at xs i (omega arith) all (prefix_len-drop_no is_ascii_digit xs i 0 h other)

pub prefix_len_end : (xs : List ℕ) (i : ℕ) → length xs ≤ i → list_all is_ascii_digit (take i xs) ≡ true → prefix_len is_ascii_digit xs ≡ length xs
prefix_len_end xs i h all =
    let whole = take_all i xs h in
    prefix_len-all xs (rw whole at all)

pub digits_of-end : (xs : List ℕ) (i : ℕ) → length xs ≤ i → list_all is_ascii_digit (take i xs) ≡ true → digits_of xs ≡ xs
digits_of-end xs i h all = rw (prefix_len_end xs i h all) (take_all (length xs) xs (omega arith))
