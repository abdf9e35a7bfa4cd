-- One more digit behind a number of which the last digits may be dropped.
use Rattle.std.proofs.Common.{◌≡◌, ℕ, ◌+◌, ◌*◌, ◌/◌, ◌^◌, ◌<◌, ◌≤◌, arith, refl, ap, eq-zero-or-pos, inl, inr, pow-suc, add-one, mul_comm}
use Rattle.std.proofs.Math.Nat.{div-div-eq-div-mul}

-- where a digit still fits, none is dropped yet
pub quotient-kept : (n d l k : ℕ) → n / 10 ^ k ≡ l → (0 < k → 10 ^ 28 ≤ l) → l < 10 ^ 28 → (n * 10 + d) / 10 ^ k ≡ l * 10 + d
quotient-kept n d l k same many few =
    elim (eq-zero-or-pos k) [
      | inl z ↦ let one : 10 ^ k ≡ 1 = ap (λ e. 10 ^ e) z in
          let whole : n / 1 ≡ l = rw one at same in
          rw one (omega arith)
      | inr p ↦ absurd (omega (arith, many p))
    ]

-- a dropped digit changes no other
pub quotient-dropped : (n d k : ℕ) → d < 10 → (n * 10 + d) / 10 ^ (k + 1) ≡ n / 10 ^ k
quotient-dropped n d k h =
    let tens : (n * 10 + d) / 10 ≡ n = omega arith in
    let power : 10 ^ (k + 1) ≡ 10 * 10 ^ k = rw (add-one, pow-suc) (mul_comm (10 ^ k) 10) in
    rw (power, ← div-div-eq-div-mul (n * 10 + d) 10 (10 ^ k), tens) refl
