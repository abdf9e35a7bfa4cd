use Rattle.std.proofs.Common.{◌≡◌, ◌<◌, ℕ, []}
use Rattle.gn_cycle.specs.Graph.{lists}
use Rattle.gn_order.specs.Walk.{Found, Knows}
use Rattle.gn_order.proofs.heights.heights_of.Given as goal

abbrev pub invariant-loop-node : goal.invariant-loop-node
invariant-loop-node l = record {
  found : Found (lists l.targets) l.heights.items;
  known : (n : ℕ) → n < l.node → Knows l.heights.items n;
  free : l.way.items ≡ [];
}
