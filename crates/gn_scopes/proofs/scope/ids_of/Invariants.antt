use Rattle.std.proofs.Common.{◌≡◌, ◌++◌, drop, map}
use Rattle.gn_tree.specs.Seen.{nodes_of}
use Rattle.gn_rules.specs.Sockets.{ids}
use Rattle.gn_scopes.proofs.scope.ids_of.Given as goal

abbrev pub invariant-loop-node : goal.invariant-loop-node
invariant-loop-node l = map (λ text. text.now) l.texts.items ++ ids (nodes_of (drop l.node-index l.nodes)) ≡ ids (nodes_of l.nodes)
