use Rattle.std.proofs.Common.{◌≡◌, ◌++◌, drop}
use Rattle.gn_cycle.specs.Graph.{lists}
use Rattle.gn_tree.specs.Seen.{nodes_of}
use Rattle.gn_rules.specs.Rules.{graph_from}
use Rattle.gn_scopes.proofs.edges.edges_of.Given as goal

abbrev pub invariant-loop-node : goal.invariant-loop-node
invariant-loop-node l = lists l.edges.items ++ graph_from l.names (nodes_of (drop l.node-index l.nodes)) ≡ graph_from l.names (nodes_of l.nodes)
