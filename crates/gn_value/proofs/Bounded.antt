use Rattle.std.proofs.Common.{◌≡◌, ◌≤◌, ◌^◌, ℤ, ◌+ℤ◌, ◌-ℤ◌, unsigned_abs, to_z, of_z, arith}
use Rattle.std.specs.Int.{w128}
use Rattle.std.proofs.lemmas.Int.{ints}

-- sums and differences of small numbers fit 128 bits
pub difference_fits : (p q : ℤ) → unsigned_abs p ≤ 2 ^ 94 → unsigned_abs q ≤ 2 ^ 94
    → to_z w128 (of_z w128 (to_z w128 (of_z w128 p) -ℤ to_z w128 (of_z w128 q))) ≡ p -ℤ q
difference_fits p q a b = omega (arith, ints)

pub sum_fits : (p q r : ℤ) → unsigned_abs p ≤ 2 ^ 94 → unsigned_abs q ≤ 2 ^ 94 → unsigned_abs r ≤ 2 ^ 94
    → to_z w128 (of_z w128 (to_z w128 (of_z w128 (to_z w128 (of_z w128 p) +ℤ to_z w128 (of_z w128 q))) +ℤ to_z w128 (of_z w128 r))) ≡ p +ℤ q +ℤ r
sum_fits p q r a b c = omega (arith, ints)
