use Rattle.std.proofs.Common.{arith, mod-lt}
use Rattle.gn_decimal.proofs.Units.{pow_ten_pos}
use Rattle.gn_decimal.proofs.rounding.split_magnitude.Goals as goal

pub nonzero_div-digits : goal.nonzero_div-digits
nonzero_div-digits c = omega (arith, pow_ten_pos c.args.places)

pub nonzero_rem-digits : goal.nonzero_rem-digits
nonzero_rem-digits c = omega (arith, pow_ten_pos c.args.places)

pub short_magnitude-requires-clause-part : goal.short_magnitude-requires-clause-part
short_magnitude-requires-clause-part c =
    rw c.power_of_ten-power.ensures (mod-lt c.args.digits (pow_ten_pos c.args.places))
