use Rattle.std.proofs.Common.{◌≡◌, map, drop}
use Rattle.std.specs.Prelude.{max}
use Rattle.gn_stands.specs.Order.{greatest}
use Rattle.gn_order.specs.Heights.{at}
use Rattle.gn_order.proofs.heights.greatest_height.Given as goal

abbrev pub invariant-loop-node : goal.invariant-loop-node
invariant-loop-node l = max l.most (greatest (map (at l.heights) (drop l.node-index l.nodes))) ≡ greatest (map (at l.heights) l.nodes)
