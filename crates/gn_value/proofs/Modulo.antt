use Rattle.std.proofs.Common.{◌≡◌, ◌/◌, ℕ, zero, suc, ℤ, pos, negsuc, neg_ℤ, ◌-ℤ◌, ◌*ℤ◌, ◌<ℤ◌, arith}
use Rattle.std.proofs.Math.Nat.{div-add-mod, mul-suc}
use Rattle.std.proofs.lemmas.Nat.{mod_below}
use Rattle.std.proofs.lemmas.Int.{ints}
use Rattle.std.specs.Int.{int_rem_euclid, int_div_euclid}
use Rattle.gn_value.specs.Arithmetic.{floor_div, modulo_of}

-- what the quotient that is rounded down leaves of a number
pub rest_of : (x : ℤ) (k : ℕ) → x -ℤ (pos (suc k) *ℤ int_div_euclid x (pos (suc k))) ≡ int_rem_euclid x (pos (suc k))
rest_of (pos m) k = omega (arith, ints, div-add-mod m (suc k))
rest_of (negsuc m) k = omega (arith, ints, div-add-mod m (suc k), mul-suc (suc k) (m / suc k), mod_below m (suc k) (omega arith))

pub above : (a b : ℤ) → pos 0 <ℤ b → floor_div a b ≡ int_div_euclid a b
above a b h = grind (arith, ints)

below : (a b : ℤ) → b <ℤ pos 0 → floor_div a b ≡ int_div_euclid (neg_ℤ a) (neg_ℤ b)
below a b h = grind (arith, ints)

-- above a positive divisor the modulo is the remainder that is not negative
pub modulo_above_zero : (a b : ℤ) → pos 0 <ℤ b → modulo_of a b ≡ int_rem_euclid a b
modulo_above_zero a (pos zero) h = absurd (omega (arith, ints))
modulo_above_zero a (pos (suc k)) h = rw (above a (pos (suc k)) h) (rest_of a k)
modulo_above_zero a (negsuc k) h = absurd (omega (arith, ints))

turned : (k : ℕ) (q : ℤ) → negsuc k *ℤ q ≡ neg_ℤ (pos (suc k) *ℤ q)
turned k (pos n) = omega (arith, ints)
turned k (negsuc n) = omega (arith, ints)

-- below 0 both signs turn
pub modulo_below_zero : (a b : ℤ) → b <ℤ pos 0 → modulo_of a b ≡ neg_ℤ (int_rem_euclid (neg_ℤ a) (neg_ℤ b))
modulo_below_zero a (pos zero) h = absurd (omega (arith, ints))
modulo_below_zero a (pos (suc k)) h = absurd (omega (arith, ints))
modulo_below_zero a (negsuc k) h =
    rw (below a (negsuc k) h) (omega (arith, ints, rest_of (neg_ℤ a) k, turned k (int_div_euclid (neg_ℤ a) (pos (suc k)))))
