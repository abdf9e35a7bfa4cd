use Rattle.std.proofs.Common.{Some, ◌∙◌, ap, subst}
use Rattle.gn_tree.specs.Seen.{tree_of}
use Rattle.gn_origin.specs.Reading.{IsRead}
use Rattle.gn_origin.proofs.Moving.{on_ok}
use Rattle.gn_origin.proofs.Output.{ends_at}
use Rattle.gn_origin.proofs.plans.end_of.Goals as goal

pub returns : goal.returns
returns g c r is =
    let t = tree_of c.args.lists.now.tree.now in
    let start = c.in_ok-start.ensures in
    let there : IsRead (tree_of c.args.lists.now.tree.now) c.args.frames.now.items (Some c.in-Some.read) r = subst (λ o. IsRead t c.args.frames.now.items o r) c.in-Some.is is in
    on_ok c.follow.result (λ end ends. ends_at t r c.in_ok-start.field-0 (ap (λ l. tree_of l.tree.now) start.0) (start.1 ∙ there.0) end ends) c.follow.ensures
