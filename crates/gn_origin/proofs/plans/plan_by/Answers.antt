use Rattle.std.proofs.Common.{sym, subst}
use Rattle.gn_tree.specs.Seen.{tree_of}
use Rattle.gn_meaning.specs.Demand.{output_read}
use Rattle.gn_origin.specs.Reading.{IsRead}
use Rattle.gn_origin.specs.Moves.{IsReady, EndsAt}
use Rattle.gn_origin.proofs.Bounds.{plan_steps}
use Rattle.gn_origin.proofs.Output.{no_plan}
use Rattle.gn_origin.proofs.plans.plan_by.Goals as goal

pub end_of-requires : goal.end_of-requires
end_of-requires c =
    let t = tree_of c.args.lists.now.tree.now in
    let items = c.new-frames.ensures.items in
    (subst (IsReady c.args.lists.now) (sym items) c.requires, (output_read t, subst (λ fs. IsRead t fs c.output_read.result (output_read t)) (sym items) c.output_read.ensures, ((plan_steps t c.args.lists.now.keeps c.args.lists.now.form).1).output))

pub returns-in_default : goal.returns-in_default
returns-in_default c =
    let t = tree_of c.args.lists.now.tree.now in
    let read = subst (λ fs. IsRead t fs c.output_read.result (output_read t)) (sym c.new-frames.ensures.items) c.output_read.ensures in
    no_plan t (subst (EndsAt t (output_read t)) c.in_default.is (c.in_ok-end.ensures (output_read t) read))

pub plan_at-requires : goal.plan_at-requires
plan_at-requires c =
    let t = tree_of c.args.lists.now.tree.now in
    let read = subst (λ fs. IsRead t fs c.output_read.result (output_read t)) (sym c.new-frames.ensures.items) c.output_read.ensures in
    (c.requires, ((plan_steps t c.args.lists.now.keeps c.args.lists.now.form).1, subst (EndsAt t (output_read t)) c.in-Some.is (c.in_ok-end.ensures (output_read t) read)))
