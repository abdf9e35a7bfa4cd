use Rattle.std.proofs.Common.{◌*◌, ◌≡◌, length, sym, subst, arith}
use Rattle.gn_field.specs.Steps.{AreBelow}
use Rattle.gn_wholes.proofs.Places.{reaches_here, covers_here}
use Rattle.gn_wholes.proofs.Covering.{all_asked, covers}
use Rattle.gn_wholes.proofs.Ordering.{once}
use Rattle.gn_wholes.proofs.collect.wholes_on.Goals as goal

pub returns-clause-covers : goal.returns-clause-covers
returns-clause-covers g c =
    let ctx = g.C.Context.meaning c.args.context.now in
    let xs = c.args.steps.now in
    let roots = c.args.roots.now in
    let l = c.loop-at in
    let table = c.in_ok-table.table.items in
    let asking = c.in_ok-table.ensures in
    let end : l.at ≡ length xs = omega arith in
    let below : AreBelow l.at roots = subst (λ n. AreBelow n roots) (sym end) c.requires.within in
    covers_here ctx c.args.place xs roots l.wholes.items c.requires.place
    (covers ctx table xs l.wholes.items l.at c.requires.steps.back (all_asked xs roots c.args.place table asking) l.invariant.so_far.there c.args.place roots (reaches_here ctx c.args.place c.requires.place) below asking.roots_asked)

pub returns-clause-once : goal.returns-clause-once
returns-clause-once g c = once (6 * c.loop-at.at) c.loop-at.wholes.items c.loop-at.invariant.order
