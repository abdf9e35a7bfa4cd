use Rattle.std.proofs.Common.{IfOk, ◌∙◌, ap, subst}
use Rattle.gn_tree.specs.Seen.{tree_of}
use Rattle.gn_meaning.proofs.Formed.{has_form}
use Rattle.gn_plans.specs.Answers.{Answers}
use Rattle.gn_origin.proofs.plans.find_plan.Goals as goal

pub new-requires-clause-rules : goal.new-requires-clause-rules
new-requires-clause-rules c = (c.tree.ensures.kept, has_form (tree_of c.tree.result.now) c.tree.ensures.formed)

pub returns : goal.returns
returns c = subst (λ x. IfOk c.plan_by.result (Answers x)) (ap tree_of c.in_ok-lists.ensures.0 ∙ c.tree.ensures.same) c.plan_by.ensures
