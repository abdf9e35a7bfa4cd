use Rattle.std.proofs.Common.{◌≤◌, length, arith}
use Rattle.gn_proc.proofs.Tapes.{are_steps}
use Rattle.gn_proc.proofs.tape.build.Goals as goal

pub tape_of-requires-clause-steps : goal.tape_of-requires-clause-steps
tape_of-requires-clause-steps g c κs within =
    let made = c.in_ok-steps.field-0 in
    let few : length made.steps.items ≤ 4096 = omega arith in
    are_steps g.S.Source.sources g.S.Source.taken c.args.fields.now made.steps.items made.roots.items c.in_ok-steps.ensures few
