use Rattle.std.proofs.Common.{◌*◌, arith}
use Rattle.std.proofs.lemmas.Nat.{mod_below}
use Rattle.gn_value.proofs.Division.{halves, below_scale}
use Rattle.gn_value.proofs.whole.fraction_in_halves.Goals as goal

pub overflow_mul-scaled : goal.overflow_mul-scaled
overflow_mul-scaled c = record { fits = omega (arith, c.requires.rest_of, c.requires.short) }

pub nonzero_rem-left : goal.nonzero_rem-left
nonzero_rem-left c = omega (arith, c.requires.rest_of)

pub nonzero_div-result : goal.nonzero_div-result
nonzero_div-result c = omega (arith, c.requires.rest_of)

pub overflow_mul-result : goal.overflow_mul-result
overflow_mul-result c = record { fits = omega (arith, below_scale c.args.rest 65536 c.args.divisor c.requires.rest_of (omega arith)) }

pub overflow_mul-result-2 : goal.overflow_mul-result-2
overflow_mul-result-2 c = record { fits = omega (arith, c.requires.short, mod_below (c.args.rest * 65536) c.args.divisor (omega (arith, c.requires.rest_of))) }

pub nonzero_div-result-2 : goal.nonzero_div-result-2
nonzero_div-result-2 c = omega (arith, c.requires.rest_of)

pub overflow_add-result : goal.overflow_add-result
overflow_add-result c = record { fits = omega (arith, halves c.args.rest c.args.divisor (omega (arith, c.requires.rest_of)), below_scale c.args.rest 4294967296 c.args.divisor c.requires.rest_of (omega arith)) }

pub returns : goal.returns
returns c = halves c.args.rest c.args.divisor (omega (arith, c.requires.rest_of))
