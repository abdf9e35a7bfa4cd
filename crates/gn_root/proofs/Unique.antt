-- There is one root.
use Rattle.std.proofs.Common.{◌≡◌, ◌≤◌, ◌<◌, ◌*◌, ◌+◌, ◌^◌, ℕ, zero, suc, Bool, true, false, sym, arith, nat_le, inl, inr}
use Rattle.std.proofs.Math.Nat.{pow-suc, mul-le-mul}
use Rattle.std.proofs.lemmas.Bool.{cases_lt}
use Rattle.std.proofs.lemmas.Bool.Decides.{nat_tests}
use Rattle.gn_root.specs.Roots.{greatest, root, IsRoot}

-- the greatest number that passes is the one with which passing ends
greatest_is : (bits : ℕ) (passes : ℕ → Bool) (base r : ℕ) → base ≤ r → r < base + 2 ^ bits
    → ((s : ℕ) → s ≤ r → passes s ≡ true) → ((s : ℕ) → r < s → passes s ≡ false) → greatest bits passes base ≡ r
unfolding greatest
greatest_is zero passes base r least small below above = omega arith
greatest_is (suc bits) passes base r least small below above =
    elim (cases_lt r (base + 2 ^ bits)) [
      | inl low ↦ rw (above (base + 2 ^ bits) low) (greatest_is bits passes base r least low below above)
      | inr high ↦ rw (below (base + 2 ^ bits) high)
          (greatest_is bits passes (base + 2 ^ bits) r high (omega (arith, pow-suc 2 bits)) below above)
    ]

pub root_unique : (n r : ℕ) → r < 2 ^ 64 → IsRoot n r → r ≡ root n
unfolding root
root_unique n r small is =
    let fits = is.square_fits in
    let next = is.next_does_not in
    sym (greatest_is 64 (λ s. nat_le (s * s) n) 0 r (omega arith) (omega arith)
    (λ s h. let below : s * s ≤ r * r = mul-le-mul h h in grind (arith, nat_tests))
    (λ s h. let above : (r + 1) * (r + 1) ≤ s * s = mul-le-mul {n₁ = r + 1} {m₁ = r + 1} {n₂ = s} {m₂ = s} (omega arith) (omega arith) in grind (arith, nat_tests)))
