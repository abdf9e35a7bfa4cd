use Rattle.gn_readers.specs.Readers.{lists_of, HaveReadersAt, before_input}
use Rattle.gn_readers.proofs.readers.readers_of.Given as goal

abbrev pub invariant-loop-node : goal.invariant-loop-node
invariant-loop-node g l = record {
  noted : HaveReadersAt l.graph (before_input l.node 0) (lists_of l.readers.items);
}
