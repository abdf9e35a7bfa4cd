use Rattle.std.proofs.Common.{◌+◌, ◌≤◌, length, arith}
use Rattle.gn_field.proofs.Roots.{finished}
use Rattle.gn_field.proofs.field.finish.Goals as goal

pub field_of-requires-after_bounds : goal.field_of-requires-after_bounds
field_of-requires-after_bounds g c κs within =
    let most : length c.args.steps.items + 1 ≤ 4096 = omega (arith, c.len.ensures, c.if-distinct-gt4096.false) in
    finished g.S.Source.sources g.S.Source.taken c.args.steps.items c.args.step c.requires.makes most
