use Rattle.std.proofs.Common.{ℕ, ◌<◌, ◌≤◌, IsTrue}
use Rattle.gn_cycle.specs.Graph.{lists, has_edge}
use Rattle.gn_cycle.specs.Ranks.{rank}
use Rattle.gn_cycle.proofs.ranks.none_rises.Given as goal

abbrev pub invariant-loop-node : goal.invariant-loop-node
invariant-loop-node l = (i j : ℕ) → i < l.node → IsTrue (has_edge (lists l.targets) i j) → rank l.ranks j ≤ rank l.ranks i
