use Rattle.std.proofs.Common.{◌≡◌, ◌^◌, ◌<◌, ◌≤◌}
use Rattle.gn_decimal.specs.Decimal.{fraction_digits}
use Rattle.gn_decimal.proofs.printer.without_zeros.Given as goal

abbrev pub invariant-loop-digits : goal.invariant-loop-digits
invariant-loop-digits l = record {
  some : 0 < l.digits;
  below : l.digits < 10 ^ l.places;
  same : fraction_digits l.places l.digits ≡ fraction_digits 10 l.fraction;
  within : l.places ≤ 10;
}

abbrev pub decreases-loop-digits : goal.decreases-loop-digits
decreases-loop-digits l = l.places
