use Rattle.gn_node_set.proofs.PathOrder.{are_ordered}
use Rattle.gn_node_set.proofs.order.paths_are_ordered.Goals as goal

pub returns : goal.returns
returns c = are_ordered
