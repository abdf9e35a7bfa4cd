-- The definitions at single texts and numbers.
use Rattle.std.proofs.Common.{◌≡◌, Some, None, pos, negsuc, refl}
use Rattle.std.specs.Prelude.{codes}
use Rattle.std.specs.Fmt.{digits}
use Rattle.gn_decimal.specs.Decimal.{nearest, small_number, signed_exponent, exponent_of, parts_of, units, raw_of, magnitude_of, num, fraction_digits, dec}

one_and_a_half : num (codes "+1.5e+00") ≡ Some (pos 6442450944)
unfolding nearest small_number signed_exponent exponent_of parts_of units raw_of magnitude_of num
one_and_a_half = refl

-- 0.00048828125 = 2 ^ -11
tiny : num (codes "-0.00048828125") ≡ Some (negsuc 2097151)
unfolding nearest small_number signed_exponent exponent_of parts_of units raw_of magnitude_of num
tiny = refl

large : num (codes "1e99") ≡ Some (pos 9223372036854775807)
unfolding nearest small_number signed_exponent exponent_of parts_of units raw_of magnitude_of num
large = refl

too_large_an_exponent : num (codes "1e100") ≡ None
unfolding nearest small_number signed_exponent exponent_of parts_of units raw_of magnitude_of num
too_large_an_exponent = refl

point_first : num (codes "+.5") ≡ Some (pos 2147483648)
unfolding nearest small_number signed_exponent exponent_of parts_of units raw_of magnitude_of num
point_first = refl

point_last : num (codes "5.") ≡ Some (pos 21474836480)
unfolding nearest small_number signed_exponent exponent_of parts_of units raw_of magnitude_of num
point_last = refl

two_points : num (codes "1.2.3") ≡ None
unfolding nearest small_number signed_exponent exponent_of parts_of units raw_of magnitude_of num
two_points = refl

a_point_alone : num (codes ".") ≡ None
unfolding nearest small_number signed_exponent exponent_of parts_of units raw_of magnitude_of num
a_point_alone = refl

least_text : dec (negsuc 9223372036854775807) ≡ codes "-2147483648"
unfolding nearest fraction_digits dec digits
least_text = refl

first_text : dec (negsuc 0) ≡ codes "-0.0000000002"
unfolding nearest fraction_digits dec digits
first_text = refl
