use Rattle.std.proofs.Common.{◌≡◌, drop}
use Rattle.gn_node_set.specs.Meanings.{converted}
use Rattle.gn_machine_tests.specs.Numbers.{rows}
use Rattle.gn_machine_tests.proofs.numbers.NumbersNodeSet.through.Given as goal

abbrev pub invariant-loop-kind : goal.invariant-loop-kind
invariant-loop-kind l = record {
  left : converted rows l.number (drop l.kind-index l.kinds) ≡ converted rows l.fn.value l.fn.kinds;
}
