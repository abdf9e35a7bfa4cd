-- Three products and a shift, added in 128 bits.
use Rattle.std.proofs.Common.{◌≡◌, ◌≤◌, ◌^◌, ℤ, ◌+ℤ◌, unsigned_abs, FitsSigned, to_z, of_z, w64, arith}
use Rattle.std.specs.Int.{w128}
use Rattle.std.proofs.lemmas.Int.{ints}
use Rattle.gn_value.proofs.Bounded.{sum_fits}

abbrev added : ℤ → ℤ → ℤ → ℤ
added p q r = to_z w128 (of_z w128 (to_z w128 (of_z w128 (to_z w128 (of_z w128 p) +ℤ to_z w128 (of_z w128 q))) +ℤ to_z w128 (of_z w128 r)))

small : (p s : ℤ) (q r : ℤ) → unsigned_abs p ≤ 2 ^ 94 → unsigned_abs q ≤ 2 ^ 94 → unsigned_abs r ≤ 2 ^ 94 → FitsSigned w128 (p +ℤ q +ℤ r +ℤ to_z w128 (of_z w128 (to_z w64 (of_z w64 s))))
small p s q r a b c = omega (arith, ints)

pub shift_fits : (p q r s : ℤ) → unsigned_abs p ≤ 2 ^ 94 → unsigned_abs q ≤ 2 ^ 94 → unsigned_abs r ≤ 2 ^ 94
    → FitsSigned w128 (added p q r +ℤ to_z w128 (of_z w128 (to_z w64 (of_z w64 s))))
shift_fits p q r s a b c = rw (sum_fits p q r a b c) (small p s q r a b c)

whole : (p q r s : ℤ) → unsigned_abs p ≤ 2 ^ 94 → unsigned_abs q ≤ 2 ^ 94 → unsigned_abs r ≤ 2 ^ 94 → FitsSigned w64 s
    → to_z w128 (of_z w128 (p +ℤ q +ℤ r +ℤ to_z w128 (of_z w128 (to_z w64 (of_z w64 s))))) ≡ p +ℤ q +ℤ r +ℤ s
whole p q r s a b c fits = omega (arith, ints)

pub shifted_sum : (p q r s : ℤ) → unsigned_abs p ≤ 2 ^ 94 → unsigned_abs q ≤ 2 ^ 94 → unsigned_abs r ≤ 2 ^ 94 → FitsSigned w64 s
    → to_z w128 (of_z w128 (added p q r +ℤ to_z w128 (of_z w128 (to_z w64 (of_z w64 s))))) ≡ p +ℤ q +ℤ r +ℤ s
shifted_sum p q r s a b c fits = rw (sum_fits p q r a b c) (whole p q r s a b c fits)
