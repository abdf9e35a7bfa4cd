use Rattle.gn_tree.specs.Seen.{tree_of}
use Rattle.gn_origin.proofs.Bounds.{plan_steps}
use Rattle.gn_origin.proofs.plans.plan_by.Given as goal

abbrev pub ghost-end_of : goal.ghost-end_of
ghost-end_of a = (plan_steps (tree_of a.lists.now.tree.now) a.lists.now.keeps a.lists.now.form).0

abbrev pub ghost-plan_at : goal.ghost-plan_at
ghost-plan_at a = (plan_steps (tree_of a.lists.now.tree.now) a.lists.now.keeps a.lists.now.form).0
