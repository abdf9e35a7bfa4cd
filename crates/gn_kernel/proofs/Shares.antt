use Rattle.std.proofs.Common.{◌≡◌, ◌*◌, ◌/◌, ◌≤◌, ◌<◌, ◌^◌, ℕ, suc, ℤ, pos, ◌+ℤ◌, ◌-ℤ◌, ◌≤ℤ◌, int_lt, false, refl, arith, lit<}
use Rattle.std.proofs.Math.Nat.{mul-le-mul_right, suc-mul}
use Rattle.std.proofs.lemmas.Nat.{div_below}
use Rattle.std.proofs.lemmas.Int.{ints}
use Rattle.gn_value.specs.Rows.{random_int}

-- a part of the whole gives a place that is there
pub share_below : (part count : ℕ) → part < 2 ^ 32 → 0 < count → part * count / 2 ^ 32 < count
share_below part count h some =
    let all : suc part * count ≤ 2 ^ 32 * count = mul-le-mul_right count (omega arith) in
    div_below (part * count) (2 ^ 32) count (lit< tt) (omega (arith, suc-mul part count))

-- the row of a random integer, by the number of integers that there are
pub random_int_is : (low high : ℤ) (hash count : ℕ) → low ≤ℤ high → pos count ≡ high -ℤ low +ℤ pos 1
    → random_int low high hash ≡ low +ℤ pos (hash / 2 ^ 32 * count / 2 ^ 32)
unfolding random_int
random_int_is low high hash count order e =
    let test : int_lt high low ≡ false = grind (arith, ints) in rw test (rw (← e) refl)
