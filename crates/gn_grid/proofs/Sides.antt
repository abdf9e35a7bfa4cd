-- The numbers of a side fit.
use Rattle.std.proofs.Common.{ℤ, pos, ◌-ℤ◌, ◌*ℤ◌, unsigned_abs, SFits, w64, to_z, of_z, ◌≡◌, ◌==◌, false, if◌then◌else◌, ℕ, ◌-◌, ◌*◌, ◌<◌, ◌≤◌, ◌^◌, ap, sym, ◌∙◌, arith}
use Rattle.std.specs.Int.{w128}
use Rattle.std.proofs.Math.Nat.{mul-le-mul_left}
use Rattle.gn_value.specs.Arithmetic.{sat, floor_div}
use Rattle.gn_shapes.specs.Grids.{along_side}
use Rattle.std.proofs.lemmas.Bool.{ne_eqb}
use Rattle.std.proofs.lemmas.Int.{ints, unsigned_abs-mul, to_z-of_z}

whole : (n : ℕ) → n < 2 ^ 32 → to_z w128 n ≡ pos n
whole n bound = omega (arith, ints)

twice : (n : ℕ) → n < 2 ^ 32 → to_z w128 (of_z w128 (pos 2 *ℤ pos n)) ≡ pos (2 * n)
twice n bound = omega (arith, ints)

one_less : (n : ℕ) → 1 ≤ n → n < 2 ^ 32 → to_z w128 (of_z w128 (pos n -ℤ pos 1)) ≡ pos (n - 1)
one_less n some bound = omega (arith, ints)

difference : (a b : ℕ) → a < 2 ^ 33 → b < 2 ^ 32 → to_z w128 (of_z w128 (pos a -ℤ pos b)) ≡ pos a -ℤ pos b
difference a b left right = omega (arith, ints)

exact : (p : ℤ) → unsigned_abs p ≤ 2 ^ 96 → to_z w128 (of_z w128 p) ≡ p
exact p bound = omega (arith, ints)

wide : (s : ℤ) → SFits w64 s → unsigned_abs s ≤ 2 ^ 63 → to_z w128 (of_z w128 (to_z w64 (of_z w64 s))) ≡ s
wide s fits bound = ap (λ (z : ℤ). to_z w128 (of_z w128 z)) (to_z-of_z w64 s fits) ∙ exact s (omega (arith, bound))

spread : (a b : ℕ) → a < 2 ^ 33 → b < 2 ^ 32 → unsigned_abs (pos a -ℤ pos b) ≤ 2 ^ 33
spread a b left right = omega (arith, ints)

product_bound : (t s : ℤ) → unsigned_abs t ≤ 2 ^ 33 → unsigned_abs s ≤ 2 ^ 63 → unsigned_abs (t *ℤ s) ≤ 2 ^ 96
product_bound t s left right =
    let size : unsigned_abs (t *ℤ s) ≡ unsigned_abs t * unsigned_abs s = unsigned_abs-mul t s in
    let most : unsigned_abs t * unsigned_abs s ≤ unsigned_abs t * 2 ^ 63 = mul-le-mul_left (unsigned_abs t) right in
    omega (arith, size, most, left)

module _ (size : ℤ) (count number : ℕ) (fits : SFits w64 size) (small : unsigned_abs size ≤ 2 ^ 63) (within : number < count) (few : count < 2 ^ 32) where
  pub steps_read : to_z w128 (of_z w128 (to_z w128 count -ℤ pos 1)) ≡ pos (count - 1)
  steps_read = ap (λ (z : ℤ). to_z w128 (of_z w128 (z -ℤ pos 1))) (whole count few) ∙ one_less count (omega (arith, within)) few

  twice_read : to_z w128 (of_z w128 (pos 2 *ℤ to_z w128 number)) ≡ pos (2 * number)
  twice_read = ap (λ (z : ℤ). to_z w128 (of_z w128 (pos 2 *ℤ z))) (whole number (omega (arith, within, few))) ∙ twice number (omega (arith, within, few))

  over_bound : unsigned_abs ((pos (2 * number) -ℤ pos (count - 1)) *ℤ size) ≤ 2 ^ 96
  over_bound = product_bound (pos (2 * number) -ℤ pos (count - 1)) size (spread (2 * number) (count - 1) (omega (arith, within, few)) (omega (arith, few))) small

  pub over_read : to_z w128 (of_z w128 (to_z w128 (of_z w128 (to_z w128 (of_z w128 (pos 2 *ℤ to_z w128 number)) -ℤ to_z w128 (of_z w128 (to_z w128 count -ℤ pos 1)))) *ℤ to_z w128 (of_z w128 (to_z w64 (of_z w64 size)))))
      ≡ (pos (2 * number) -ℤ pos (count - 1)) *ℤ size
  over_read =
      let apart = (λ i. to_z w128 (of_z w128 (twice_read i -ℤ steps_read i))) ∙ difference (2 * number) (count - 1) (omega (arith, within, few)) (omega (arith, few)) in
      let here = wide size fits small in
      (λ i. to_z w128 (of_z w128 (apart i *ℤ here i))) ∙ exact ((pos (2 * number) -ℤ pos (count - 1)) *ℤ size) over_bound

  pub under_read : to_z w128 (of_z w128 (pos 2 *ℤ to_z w128 (of_z w128 (to_z w128 count -ℤ pos 1)))) ≡ pos (2 * (count - 1))
  under_read = ap (λ (z : ℤ). to_z w128 (of_z w128 (pos 2 *ℤ z))) steps_read ∙ twice (count - 1) (omega (arith, few))

  pub over_fits : unsigned_abs ((pos (2 * number) -ℤ pos (count - 1)) *ℤ size) ≤ 2 ^ 126
  over_fits = omega (arith, over_bound)

pub shared_evenly : (size : ℤ) (count number : ℕ) → (count ≡ 1 → ⊥)
    → sat (floor_div ((pos (2 * number) -ℤ pos (count - 1)) *ℤ size) (pos (2 * (count - 1)))) ≡ along_side size count number
shared_evenly size count number many =
    let test : (count == 1) ≡ false = ne_eqb count 1 many in
    ap (λ t. if t then pos 0 else sat (floor_div ((pos (2 * number) -ℤ pos (count - 1)) *ℤ size) (pos (2 * (count - 1))))) (sym test)
