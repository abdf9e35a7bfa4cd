use Rattle.std.proofs.Common.{◌∙◌, ap, is_lt}
use Rattle.gn_node_set.proofs.PathOrder.{by_cmp}
use Rattle.gn_node_set.proofs.order.is_before.Goals as goal

pub returns-clause-by_ord : goal.returns-clause-by_ord
returns-clause-by_ord c = c.is_lt.ensures ∙ ap is_lt c.cmp.ensures

pub returns-clause-before : goal.returns-clause-before
returns-clause-before c = returns-clause-by_ord c ∙ by_cmp c.args.first.now.steps.items c.args.second.now.steps.items
