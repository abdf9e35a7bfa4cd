-- Rounding to the nearest whole number, and that a ten-billionth is fine enough to tell raw numbers apart.
use Rattle.std.proofs.Common.{◌≡◌, ℕ, ◌+◌, ◌*◌, ◌/◌, ◌%◌, ◌^◌, ◌<◌, ◌≤◌, ◌⊎◌, inl, inr, ap, arith, refl, mul-le-mul_right, div-add-mod', mod-lt, ltb, lt-ltb, le-ltb, sym, ◌∙◌}
use Rattle.std.proofs.Math.Nat.{mul-lt-mul_of_pos_right, mul-div-mul_right, mul-add-div_right, mul-add-mod_self_right}
use Rattle.std.proofs.lemmas.Bool.{cases_lt}
use Rattle.std.proofs.lemmas.Bool.Decides.{nat_tests}
use Rattle.gn_decimal.specs.Decimal.{nearest, raw_of, ten_billionths_of}

-- the nearest whole number is at most a half away
pub nearest-within : (a b : ℕ) → 0 < b → (2 * a ≤ 2 * (nearest a b * b) + b) × (2 * (nearest a b * b) ≤ 2 * a + b)
unfolding nearest
nearest-within a b h =
    let e : a / b * b + a % b ≡ a = div-add-mod' a b in
    let m : a % b < b = mod-lt a h in
    (grind (arith, nat_tests), grind (arith, nat_tests))

-- the three places of the quotient beside a whole number that is less than a half away
quotient_near : (a b n q r : ℕ) → q * b + r ≡ a → r < b → 2 * a < 2 * (n * b) + b → 2 * (n * b) < 2 * a + b → (n ≡ q) ⊎ (n ≡ q + 1)
quotient_near a b n q r e m low high =
    elim (cases_lt n q) [
      | inl lt ↦ let k : (n + 1) * b ≤ q * b = mul-le-mul_right b (omega arith) in absurd (omega arith)
      | inr ge ↦ elim (cases_lt (q + 1) n) [
        | inl gt ↦ let k : (q + 2) * b ≤ n * b = mul-le-mul_right b (omega arith) in absurd (omega arith)
        | inr le ↦ elim (cases_lt q n) [ inl up ↦ inr (omega arith) | inr down ↦ inl (omega arith) ]
      ]
    ]

-- a whole number that is less than a half away is the nearest
pub nearest-only : (a b n : ℕ) → 0 < b → 2 * a < 2 * (n * b) + b → 2 * (n * b) < 2 * a + b → nearest a b ≡ n
unfolding nearest
nearest-only a b n h low high =
    let e : a / b * b + a % b ≡ a = div-add-mod' a b in
    let m : a % b < b = mod-lt a h in
    elim (quotient_near a b n (a / b) (a % b) e m low high) [
      | inl same ↦ let k : n * b ≡ a / b * b = ap (λ x. x * b) same in grind (arith, nat_tests)
      | inr next ↦ let k : n * b ≡ (a / b + 1) * b = ap (λ x. x * b) next in grind (arith, nat_tests)
    ]

ltb_scaled : (x y c : ℕ) → 0 < c → ltb (x * c) (y * c) ≡ ltb x y
ltb_scaled x y c h =
    elim (cases_lt x y) [
      | inl lt ↦ lt-ltb (x * c) (y * c) (mul-lt-mul_of_pos_right lt h) ∙ sym (lt-ltb x y lt)
      | inr ge ↦ le-ltb (x * c) (y * c) (mul-le-mul_right c ge) ∙ sym (le-ltb x y ge)
    ]

-- a common factor changes nothing
pub nearest_scaled : (a b c : ℕ) → 0 < c → nearest (a * c) (b * c) ≡ nearest a b
unfolding nearest
nearest_scaled a b c h =
    let quotient = mul-div-mul_right a b h in
    let whole = rw quotient at (div-add-mod' (a * c) (b * c)) in
    let parts = ap (λ x. x * c) (div-add-mod' a b) in
    let remainder : 2 * (a * c % (b * c)) ≡ 2 * (a % b) * c = omega arith in
    rw (quotient, remainder, ltb_scaled (2 * (a % b)) b c h, ltb_scaled b (2 * (a % b)) c h) refl

-- an even whole number beside the fraction
pub nearest_shifted : (q a b : ℕ) → 0 < b → nearest (2 * q * b + a) b ≡ 2 * q + nearest a b
unfolding nearest
nearest_shifted q a b h =
    let quotient = mul-add-div_right h (2 * q) a in
    let remainder = mul-add-mod_self_right (2 * q) b a in
    rw (quotient, remainder) (grind (arith, nat_tests))

-- the nearest ten-billionths are nearest to one raw number, since half of one is less than half of 2 ^ -32
pub raw_of-ten_billionths : (n : ℕ) → raw_of (ten_billionths_of n * 10 ^ 8) ≡ n
unfolding raw_of
raw_of-ten_billionths n =
    let t = nearest (n * 10 ^ 10) (2 ^ 32) in
    let half = nearest-within (n * 10 ^ 10) (2 ^ 32) (omega arith) in
    nearest-only (t * 10 ^ 8 * 2 ^ 32) (10 ^ 18) n (omega arith) (omega arith) (omega arith)

-- only 0 is printed as 0
pub ten_billionths-pos : (n : ℕ) → 0 < n → 0 < ten_billionths_of n
ten_billionths-pos n h =
    let half = nearest-within (n * 10 ^ 10) (2 ^ 32) (omega arith) in
    omega arith

pub ten_billionths-fits : (n : ℕ) → n ≤ 2 ^ 63 → ten_billionths_of n < 2 ^ 63 * 10
ten_billionths-fits n h =
    let half = nearest-within (n * 10 ^ 10) (2 ^ 32) (omega arith) in
    omega arith
