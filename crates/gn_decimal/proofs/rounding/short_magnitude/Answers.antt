use Rattle.std.proofs.Common.{arith}
use Rattle.gn_decimal.proofs.Units.{nearest_of_part, part_fits, raw_of_places}
use Rattle.gn_decimal.proofs.rounding.short_magnitude.Goals as goal

pub returns-then-whole-ge-WHOLES_OUT_OF_RANGE : goal.returns-then-whole-ge-WHOLES_OUT_OF_RANGE
returns-then-whole-ge-WHOLES_OUT_OF_RANGE c =
    omega (arith, raw_of_places c.args.whole c.args.part c.args.places c.requires.few c.requires.part)

pub overflow_mul-billionths : goal.overflow_mul-billionths
overflow_mul-billionths c =
    let part = part_fits c.args.part c.args.places c.requires.few c.requires.part in
    rw c.power_of_ten.ensures (omega arith)

pub overflow_mul-billionths-2 : goal.overflow_mul-billionths-2
overflow_mul-billionths-2 c =
    let part = part_fits c.args.part c.args.places c.requires.few c.requires.part in
    rw c.power_of_ten.ensures (omega arith)

pub overflow_add-result : goal.overflow_add-result
overflow_add-result c =
    let part = part_fits c.args.part c.args.places c.requires.few c.requires.part in
    let near = nearest_of_part _ part in
    rw (c.nearest.ensures, c.power_of_ten.ensures) (omega arith)

pub returns : goal.returns
returns c =
    let part = part_fits c.args.part c.args.places c.requires.few c.requires.part in
    let near = nearest_of_part _ part in
    let value = raw_of_places c.args.whole c.args.part c.args.places c.requires.few c.requires.part in
    rw (c.nearest.ensures, c.power_of_ten.ensures) (omega arith)
