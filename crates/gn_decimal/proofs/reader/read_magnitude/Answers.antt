use Rattle.std.proofs.Common.{arith, refl, ap, ◌≡◌, ◌+◌, ◌<◌, ◌^◌, min, true, false, length, Some, SFits, w32, unsigned_abs, rules}
use Rattle.std.proofs.lemmas.Int.{to_z-of_z}
use Rattle.std.specs.Int.{is_negative}
use Rattle.gn_decimal.specs.Decimal.{after_digits, after_fraction, digits_of, exponent_of, fraction_of, raw_of, units}
use Rattle.std.specs.Str.Parse.{digits_value, digits_value_after}
use Rattle.gn_decimal.proofs.Reading.{magnitude_of_parts}
use Rattle.gn_decimal.proofs.reader.read_magnitude.Goals as goal

pub returns-then-exponent-lt0 : goal.returns-then-exponent-lt0
returns-then-exponent-lt0 c =
    let text = c.args.text.now in
    let whole = c.take_digits-whole.ensures in
    let fraction = c.take_fraction-fraction.ensures in
    let e = c.in_ok-exponent.exponent in
    let fits : SFits w32 e = search rules in
    let exponent : exponent_of (after_fraction (after_digits text)) ≡ Some e = cc (c.in_ok-exponent.ensures, whole.rest, fraction.rest) in
    let places : c.take_fraction-fraction.result.count ≡ length (fraction_of (after_digits text)) = cc (whole.rest, fraction.count) in
    let some : 0 < length (digits_of text) + length (fraction_of (after_digits text)) = omega arith in
    let negative : is_negative e ≡ true = simp (to_z-of_z w32 e fits) at c.if-exponent-lt0.true in
    let tens : c.unsigned_abs-tens.result ≡ unsigned_abs e = simp (to_z-of_z w32 e fits) at c.unsigned_abs-tens.ensures.value in
    let value = c.magnitude.ensures _ (fraction.keeps _ (whole.keeps 0 refl)) in
    let rest = ap (λ t. digits_value_after 10 (digits_value 10 (digits_of text)) (fraction_of t)) whole.rest in
    magnitude_of_parts text e 0 (c.take_fraction-fraction.result.count + c.unsigned_abs-tens.result) c.magnitude.result exponent some (rw negative refl) (rw (negative, places, tens) refl) (rw value (ap (λ n. min (raw_of (units n 0 (c.take_fraction-fraction.result.count + c.unsigned_abs-tens.result))) (2 ^ 63)) rest))

pub returns-else-exponent-lt0 : goal.returns-else-exponent-lt0
returns-else-exponent-lt0 c =
    let text = c.args.text.now in
    let whole = c.take_digits-whole.ensures in
    let fraction = c.take_fraction-fraction.ensures in
    let e = c.in_ok-exponent.exponent in
    let fits : SFits w32 e = search rules in
    let exponent : exponent_of (after_fraction (after_digits text)) ≡ Some e = cc (c.in_ok-exponent.ensures, whole.rest, fraction.rest) in
    let places : c.take_fraction-fraction.result.count ≡ length (fraction_of (after_digits text)) = cc (whole.rest, fraction.count) in
    let some : 0 < length (digits_of text) + length (fraction_of (after_digits text)) = omega arith in
    let negative : is_negative e ≡ false = simp (to_z-of_z w32 e fits) at c.if-exponent-lt0.false in
    let tens : c.unsigned_abs-tens.result ≡ unsigned_abs e = simp (to_z-of_z w32 e fits) at c.unsigned_abs-tens.ensures.value in
    let value = c.magnitude-else-exponent-lt0.ensures _ (fraction.keeps _ (whole.keeps 0 refl)) in
    let rest = ap (λ t. digits_value_after 10 (digits_value 10 (digits_of text)) (fraction_of t)) whole.rest in
    magnitude_of_parts text e c.unsigned_abs-tens.result c.take_fraction-fraction.result.count c.magnitude-else-exponent-lt0.result exponent some (rw (negative, tens) refl) (rw (negative, places) (omega arith)) (rw value (ap (λ n. min (raw_of (units n c.unsigned_abs-tens.result c.take_fraction-fraction.result.count)) (2 ^ 63)) rest))
