-- Units of 10 ^ -18, and the raw number nearest to them.
use Rattle.std.proofs.Common.{◌≡◌, ℕ, ◌+◌, ◌-◌, ◌*◌, ◌/◌, ◌^◌, ◌<◌, ◌≤◌, min, refl, ap, sym, ◌∙◌, inl, inr, arith, mul_assoc, mul-le-mul_right, mul-le-mul_left, eq-zero-or-pos, mul-lt-mul_of_pos_right}
use Rattle.std.proofs.Math.Nat.{div-div-eq-div-mul, div-mul-le_self, div-eq_of_eq-mul_left, one-le-pow, pow-le-pow_right, mul-div-mul_right, div-eq_of_lt, le_trans}
use Rattle.std.proofs.lemmas.Bool.{cases_lt}
use Rattle.std.proofs.lemmas.Nat.{pow-add, le-div}
use Rattle.gn_decimal.specs.Decimal.{nearest, raw_of, units}
use Rattle.gn_decimal.proofs.Nearest.{nearest-within, nearest_scaled, nearest_shifted}

pub pow_ten_pos : (k : ℕ) → 0 < 10 ^ k
pow_ten_pos k = one-le-pow k 10 (omega arith)

pub pow_ten_fits : (k : ℕ) → k < 39 → 10 ^ k < 2 ^ 128
pow_ten_fits k h = let most = pow-le-pow_right {n = 10} (omega arith) {i = k} {j = 38} (omega arith) in omega arith

pow_ten_large : (k : ℕ) → 39 ≤ k → 2 ^ 128 ≤ 10 ^ k
pow_ten_large k h = let least = pow-le-pow_right {n = 10} (omega arith) {i = 39} {j = k} h in omega arith

pub quotient_none : (n k : ℕ) → 39 ≤ k → n < 2 ^ 128 → n / 10 ^ k ≡ 0
quotient_none n k h small = div-eq_of_lt (le_trans small (pow_ten_large k h))

pub product_large : (n k : ℕ) → 39 ≤ k → 0 < n → 2 ^ 128 ≤ n * 10 ^ k
product_large n k h some =
    let one : 1 * 10 ^ k ≤ n * 10 ^ k = mul-le-mul_right (10 ^ k) some in
    omega (arith, pow_ten_large k h)

-- ---- a power of ten in both parts

power_split : (up down more : ℕ) → up + 18 ≡ down + more → 10 ^ up * 10 ^ 18 ≡ 10 ^ down * 10 ^ more
power_split up down more e = sym (pow-add 10 up 18) ∙ ap (λ k. 10 ^ k) e ∙ pow-add 10 down more

pub units_of_product : (d up down : ℕ) → down ≤ up + 18 → units d up down ≡ d * 10 ^ (up + 18 - down)
unfolding units
units_of_product d up down h =
    let more = up + 18 - down in
    let powers = power_split up down more (omega arith) in
    let product : d * 10 ^ up * 10 ^ 18 ≡ d * 10 ^ more * 10 ^ down = mul_assoc d (10 ^ up) (10 ^ 18) ∙ ap (λ p. d * p) powers ∙ omega arith in
    div-eq_of_eq-mul_left (pow_ten_pos down) product

pub units_of_quotient : (d up down : ℕ) → up + 18 ≤ down → units d up down ≡ d / 10 ^ (down - (up + 18))
unfolding units
units_of_quotient d up down h =
    let fewer = down - (up + 18) in
    let p = 10 ^ up * 10 ^ 18 in
    let positive : 0 < 10 ^ up * 10 ^ 18 = rw (← pow-add 10 up 18) (pow_ten_pos (up + 18)) in
    let powers : 10 ^ down ≡ 10 ^ fewer * (10 ^ up * 10 ^ 18) = ap (λ k. 10 ^ k) (omega arith) ∙ pow-add 10 fewer (up + 18) ∙ ap (λ x. 10 ^ fewer * x) (pow-add 10 up 18) in
    rw (mul_assoc d (10 ^ up) (10 ^ 18), powers) (mul-div-mul_right d (10 ^ fewer) positive)

-- ---- the range

pub raw_of_in_range : (u : ℕ) → u ≤ 2 ^ 31 * 10 ^ 18 → raw_of u ≤ 2 ^ 63
unfolding raw_of
raw_of_in_range u h = let near = nearest-within (u * 2 ^ 32) (10 ^ 18) (omega arith) in omega arith

pub raw_of_out_of_range : (u : ℕ) → 2 ^ 31 * 10 ^ 18 ≤ u → 2 ^ 63 ≤ raw_of u
unfolding raw_of
raw_of_out_of_range u h = let near = nearest-within (u * 2 ^ 32) (10 ^ 18) (omega arith) in omega arith

-- ---- a fraction with at most nine places

-- whole and part of a number whose last `places` digits stand behind the point
units_of_split : (whole part power rest : ℕ) → power * rest ≡ 10 ^ 9 → (whole * power + part) * (rest * 10 ^ 9) * 2 ^ 32 ≡ 2 * (whole * 2 ^ 31) * 10 ^ 18 + part * rest * 2 ^ 32 * 10 ^ 9
units_of_split whole part power rest nine =
    let wholes = ap (λ p. whole * p) nine in
    omega arith

pub raw_of_places : (whole part places : ℕ) → places < 10 → part < 10 ^ places → raw_of (units (whole * 10 ^ places + part) 0 places) ≡ whole * 2 ^ 32 + nearest (part * 10 ^ (9 - places) * 2 ^ 32) (10 ^ 9)
unfolding raw_of
raw_of_places whole part places h below =
    let power = 10 ^ places in
    let rest = 10 ^ (9 - places) in
    let digits = whole * 10 ^ places + part in
    let both : places + (9 - places) ≡ 9 = omega arith in
    let nine : 10 ^ places * 10 ^ (9 - places) ≡ 10 ^ 9 = sym (pow-add 10 places (9 - places)) ∙ ap (λ k. 10 ^ k) both in
    let left : 0 + 18 - places ≡ 9 - places + 9 = omega arith in
    let more : 10 ^ (0 + 18 - places) ≡ 10 ^ (9 - places) * 10 ^ 9 = ap (λ k. 10 ^ k) left ∙ pow-add 10 (9 - places) 9 in
    let product = units_of_product digits 0 places (omega arith) ∙ ap (λ p. digits * p) more in
    let all = ap (λ u. u * 2 ^ 32) product ∙ units_of_split whole part power rest nine in
    let scaled = nearest_scaled (part * rest * 2 ^ 32) (10 ^ 9) (10 ^ 9) (omega arith) in
    rw (all, nearest_shifted (whole * 2 ^ 31) (part * rest * 2 ^ 32 * 10 ^ 9) (10 ^ 18) (omega arith)) (omega arith)

-- the fraction of a raw number is at most 1
pub nearest_of_part : (part : ℕ) → part < 10 ^ 9 → nearest (part * 2 ^ 32) (10 ^ 9) ≤ 2 ^ 32
nearest_of_part part h = let near = nearest-within (part * 2 ^ 32) (10 ^ 9) (omega arith) in omega arith

pub part_fits : (part places : ℕ) → places < 10 → part < 10 ^ places → part * 10 ^ (9 - places) < 10 ^ 9
part_fits part places h below =
    let both : places + (9 - places) ≡ 9 = omega arith in
    let nine : 10 ^ places * 10 ^ (9 - places) ≡ 10 ^ 9 = sym (pow-add 10 places (9 - places)) ∙ ap (λ k. 10 ^ k) both in
    rw (← nine) (mul-lt-mul_of_pos_right below (pow_ten_pos (9 - places)))

-- ---- digits that are dropped

pub units_shared : (n up down : ℕ) → up ≤ down → units n up down ≡ units n 0 (down - up)
unfolding units
units_shared n up down h =
    let left : down ≡ down - up + up = omega arith in
    let power : 10 ^ down ≡ 10 ^ (down - up) * 10 ^ up = ap (λ k. 10 ^ k) left ∙ pow-add 10 (down - up) up in
    let product : n * 10 ^ up * 10 ^ 18 ≡ n * 10 ^ 0 * 10 ^ 18 * 10 ^ up = omega arith in
    rw (power, product) (mul-div-mul_right (n * 10 ^ 0 * 10 ^ 18) (10 ^ (down - up)) (pow_ten_pos up))

-- without its last digits the number is no greater
units_less : (n l k up down : ℕ) → l * 10 ^ k ≤ n → units l (up + k) down ≤ units n up down
unfolding units
units_less n l k up down h =
    let a = l * 10 ^ (up + k) * 10 ^ 18 in
    let power : 10 ^ (up + k) ≡ 10 ^ up * 10 ^ k = pow-add 10 up k in
    let scaled : l * 10 ^ k * 10 ^ up ≤ n * 10 ^ up = mul-le-mul_right (10 ^ up) h in
    let less : l * 10 ^ (up + k) * 10 ^ 18 ≤ n * 10 ^ up * 10 ^ 18 = rw power (omega arith) in
    le-div (a / 10 ^ down) (n * 10 ^ up * 10 ^ 18) (10 ^ down) (pow_ten_pos down) (le_trans (div-mul-le_self a (10 ^ down)) less)

-- if the last unit stands before the dropped digits, they change nothing
units_cut : (n l k up down : ℕ) → n / 10 ^ k ≡ l → up + k + 18 ≤ down → units l (up + k) down ≡ units n up down
units_cut n l k up down kept h =
    let left : down - (up + 18) ≡ k + (down - (up + k + 18)) = omega arith in
    let power : 10 ^ (down - (up + 18)) ≡ 10 ^ k * 10 ^ (down - (up + k + 18)) = ap (λ e. 10 ^ e) left ∙ pow-add 10 k (down - (up + k + 18)) in
    rw (units_of_quotient l (up + k) down h, units_of_quotient n up down (omega arith), power, ← div-div-eq-div-mul n (10 ^ k) (10 ^ (down - (up + k + 18))), kept) refl

-- and else there are more units than a raw number has
units_many : (l k up down : ℕ) → 10 ^ 28 ≤ l → down < up + k + 18 → 2 ^ 31 * 10 ^ 18 ≤ units l (up + k) down
units_many l k up down many h =
    let positive : l * 1 ≤ l * 10 ^ (up + k + 18 - down) = mul-le-mul_left l (pow_ten_pos (up + k + 18 - down)) in
    rw (units_of_product l (up + k) down (omega arith)) (omega arith)

-- the digits that are kept tell as much as all of them
pub raw_of_kept : (n l k up down : ℕ) → n / 10 ^ k ≡ l → (0 < k → 10 ^ 28 ≤ l) → min (raw_of (units l (up + k) down)) (2 ^ 63) ≡ min (raw_of (units n up down)) (2 ^ 63)
raw_of_kept n l k up down kept many =
    elim (eq-zero-or-pos k) [
      | inl z ↦ let one : 10 ^ k ≡ 1 = ap (λ e. 10 ^ e) z in
          let whole : n / 1 ≡ l = rw one at kept in
          let same : l ≡ n = omega arith in
          let still : up + k ≡ up = omega arith in
          rw (same, still) refl
      | inr p ↦ elim (cases_lt down (up + k + 18)) [
        | inl lt ↦ let enough = units_many l k up down (many p) lt in
            let fewer : l * 10 ^ k ≤ n = rw (← kept) (div-mul-le_self n (10 ^ k)) in
            let less = units_less n l k up down fewer in
            let a = raw_of_out_of_range (units l (up + k) down) enough in
            let b = raw_of_out_of_range (units n up down) (omega arith) in
            omega arith
        | inr ge ↦ ap (λ u. min (raw_of u) (2 ^ 63)) (units_cut n l k up down kept ge)
      ]
    ]

-- ---- a fraction with ten to eighteen places

pub units_of_places : (digits places : ℕ) → places < 19 → units digits 0 places ≡ digits * 10 ^ (18 - places)
units_of_places digits places h =
    let left : 0 + 18 - places ≡ 18 - places = omega arith in
    units_of_product digits 0 places (omega arith) ∙ ap (λ k. digits * 10 ^ k) left

pub units_in_range : (digits places : ℕ) → 9 < places → digits < 2 ^ 64 → digits * 10 ^ (18 - places) < 2 ^ 31 * 10 ^ 18
units_in_range digits places h fits =
    let power = pow-le-pow_right {n = 10} (omega arith) {i = 18 - places} {j = 8} (omega arith) in
    let most : digits * 10 ^ (18 - places) ≤ digits * 10 ^ 8 = mul-le-mul_left digits power in
    omega arith
