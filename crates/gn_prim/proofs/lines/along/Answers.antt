use Rattle.std.proofs.Common.{◌<◌, ◌≤◌, ◌^◌, w64, unsigned_abs, rules, ap, ◌∙◌, arith}
use Rattle.std.proofs.lemmas.Int.{ints, to_z-of_z}
use Rattle.gn_value.specs.Arithmetic.{sat}
use Rattle.gn_prim.proofs.Rows.{along_read}
use Rattle.gn_prim.proofs.lines.along.Goals as goal

pub returns : goal.returns
returns c =
    let number : c.args.number < 2 ^ 32 = search rules in
    let start : unsigned_abs c.args.start ≤ 2 ^ 63 = omega (arith, ints, c.ranges.start.sfits) in
    let offset : unsigned_abs c.args.offset ≤ 2 ^ 63 = omega (arith, ints, c.ranges.offset.sfits) in
    to_z-of_z w64 c.saturate_i64.result (search rules) ∙ c.saturate_i64.ensures ∙ ap sat (along_read c.args.number c.args.start c.args.offset number c.ranges.start c.ranges.offset start offset)
