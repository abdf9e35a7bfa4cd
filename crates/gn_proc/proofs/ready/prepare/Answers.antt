use Rattle.gn_proc.proofs.Preparing.{prepared, runnable}
use Rattle.gn_proc.proofs.ready.prepare.Goals as goal

pub invariant_of-result : goal.invariant_of-result
invariant_of-result g c =
    let made = c.in_ok-wholes.ensures in
    prepared g.S.Source.sources g.S.Source.taken c.args.steps.now c.args.roots.now c.args.plan.now c.requires (g.C.Context.meaning c.args.context.now) c.in_ok-wholes.wholes.items made.whole made.covers

pub wholes_in-requires-clause-steps : goal.wholes_in-requires-clause-steps
wholes_in-requires-clause-steps g c κs within = runnable g.S.Source.sources g.S.Source.taken c.args.steps.now c.args.roots.now c.args.plan.now c.requires
