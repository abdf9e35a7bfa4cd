use Rattle.std.proofs.Common.{◌≡◌, drop}
use Rattle.gn_cycle.specs.Search.{with_nodes}
use Rattle.gn_cycle.proofs.search.meet_all.Given as goal

abbrev pub invariant-loop-node : goal.invariant-loop-node
invariant-loop-node l = with_nodes (l.met.items, l.queue.items) (drop l.node-index l.nodes) ≡ with_nodes (l.fn.met.items, l.fn.queue.items) l.nodes
