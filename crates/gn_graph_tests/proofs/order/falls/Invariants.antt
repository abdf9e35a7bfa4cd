use Rattle.std.proofs.Common.{◌<◌, ℕ}
use Rattle.std.specs.Prelude.{IsTrue}
use Rattle.gn_cycle.specs.Graph.{lists, targets}
use Rattle.std.specs.Prelude.{length}
use Rattle.gn_graph_tests.specs.Falls.{number_of, are_below}
use Rattle.gn_graph_tests.proofs.order.falls.Given as goal

abbrev pub invariant-loop-node : goal.invariant-loop-node
invariant-loop-node l = (node : ℕ) → node < l.node → IsTrue (are_below l.numbers (length l.targets) (number_of l.numbers node) (targets (lists l.targets) node))
