-- Division of a scaled number in steps: the quotient first, and then what it leaves.
use Rattle.std.proofs.Common.{◌≡◌, ◌<◌, ◌/◌, ◌%◌, ◌*◌, ◌+◌, ◌-◌, ◌^◌, ◌∙◌, ap, sym, ℕ, zero, suc, ℤ, pos, negsuc, ◌+ℤ◌, ◌*ℤ◌, mul_comm, arith}
use Rattle.std.proofs.Math.Nat.{div-add-mod', add-mul, mul_right_comm, mul-le-mul_right, suc-mul}
use Rattle.std.proofs.lemmas.Nat.{mod_below, div_below, div-mul-add}
use Rattle.std.proofs.lemmas.Int.{ints}
use Rattle.std.specs.Int.RustNames.{unsigned_abs}
use Rattle.std.specs.Int.{int_rem_euclid, int_div_euclid}
use Rattle.gn_value.specs.Arithmetic.{one, quotient_of, sat}
use Rattle.gn_value.proofs.Modulo.{above}

-- a number is the divisor times its quotient, and less than the divisor more
parts : (n q d t : ℕ) → t < d → n ≡ q * d + t → n / d ≡ q
parts n q d t h e = ap (λ x. x / d) e ∙ div-mul-add q d t h

-- a scaled number divided is its quotient scaled, and what that leaves scaled and divided
pub long_division : (m c d : ℕ) → 0 < d → m * c / d ≡ m / d * c + m % d * c / d
long_division m c d h = parts (m * c) (m / d * c + m % d * c / d) d (m % d * c % d) (mod_below (m % d * c) d h)
    (omega (arith, ap (λ x. x * c) (div-add-mod' m d), add-mul (m / d * d) (m % d) c, mul_right_comm (m / d) d c, div-add-mod' (m % d * c) d, add-mul (m / d * c) (m % d * c / d) d))

-- the same below zero
below_zero : (m c d r n : ℕ) → 0 < d → m % d + suc r ≡ d → n + suc (r * c / d) ≡ suc (m / d) * c → (suc m * c - 1) / d ≡ n
below_zero m c d r n h e s = parts (suc m * c - 1) n d (d - 1 - r * c % d) (omega arith)
    (omega (
      arith,
      mod_below (r * c) d h,
      ap (λ x. x * d) s,
      add-mul n (suc (r * c / d)) d,
      suc-mul (r * c / d) d,
      mul_right_comm (suc (m / d)) c d,
      ap (λ x. x * c) (turned m d r h e),
      add-mul (suc m) r c,
      div-add-mod' (r * c) d,
    ))
  where
    turned : (m d r : ℕ) → 0 < d → m % d + suc r ≡ d → suc (m / d) * d ≡ suc m + r
    turned m d r h e = omega (arith, suc-mul (m / d) d, div-add-mod' m d)

-- a rest that is scaled and divided is below the scale
pub below_scale : (r c d : ℕ) → r < d → 0 < c → r * c / d < c
below_scale r c d h k = div_below (r * c) d c (omega arith) (omega (arith, mul_comm c d, mul-le-mul_right {m = suc r} {n = d} c h, suc-mul r c))

-- a raw number divided by a raw number above zero, as a raw number: the whole part, and the fraction
pub quotient_parts : (a : ℤ) (k : ℕ) → int_div_euclid (a *ℤ one) (pos (suc k)) ≡ int_div_euclid a (pos (suc k)) *ℤ one +ℤ pos (unsigned_abs (int_rem_euclid a (pos (suc k))) * 2 ^ 32 / suc k)
quotient_parts (pos m) k = omega (arith, ints, long_division m (2 ^ 32) (suc k) (omega arith))
quotient_parts (negsuc m) k =
    let r : ℕ = suc k - 1 - m % suc k in
    let f : ℕ = r * 2 ^ 32 / suc k in
    let small : f < 2 ^ 32 = below_scale r (2 ^ 32) (suc k) (omega (arith, mod_below m (suc k) (omega arith))) (omega arith) in
    let scaled : negsuc m *ℤ one ≡ negsuc (suc m * 2 ^ 32 - 1) = omega (arith, ints) in
    let whole : negsuc (m / suc k) *ℤ one +ℤ pos f ≡ negsuc (suc (m / suc k) * 2 ^ 32 - suc f) = omega (arith, ints, small) in
    ap (λ z. int_div_euclid z (pos (suc k))) scaled
    ∙ ap negsuc (below_zero m (2 ^ 32) (suc k) r (suc (m / suc k) * 2 ^ 32 - suc f) (omega arith) (omega (arith, mod_below m (suc k) (omega arith))) (omega (arith, small)))
    ∙ sym whole

-- two halves of 16 bits are one step of 32
pub halves : (r d : ℕ) → 0 < d → r * 65536 / d * 65536 + r * 65536 % d * 65536 / d ≡ r * 4294967296 / d
halves r d h = sym (long_division (r * 65536) 65536 d h) ∙ ap (λ x. x / d) (omega arith)

-- the quotient of two raw numbers by its whole part and its fraction
pub quotient_is : (a whole : ℤ) (b rest fraction : ℕ) → 0 < b → whole ≡ int_div_euclid a (pos b) → pos rest ≡ int_rem_euclid a (pos b) → fraction ≡ rest * 2 ^ 32 / b → sat (whole *ℤ one +ℤ pos fraction) ≡ quotient_of a (pos b)
quotient_is a whole zero rest fraction h w r f = absurd (omega arith)
quotient_is a whole (suc k) rest fraction h w r f =
    ap sat (rw w (rw f (rw (ap unsigned_abs r) (sym (quotient_parts a k)))) ∙ sym (above (a *ℤ one) (pos (suc k)) (omega (arith, ints))))
