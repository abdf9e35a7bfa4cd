use Rattle.std.proofs.Common.{◌≡◌, ◌++◌, drop, map}
use Rattle.gn_scopes.specs.Groups.{lists_in}
use Rattle.gn_scopes.specs.Scopes.{items_of_node}
use Rattle.gn_scopes.proofs.scope.all_items.Given as goal

abbrev pub invariant-loop-node : goal.invariant-loop-node
invariant-loop-node l = lists_in l.items.items ++ map items_of_node (drop l.node-index l.nodes) ≡ map items_of_node l.nodes
