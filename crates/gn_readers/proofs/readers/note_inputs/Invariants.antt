use Rattle.gn_readers.specs.Readers.{lists_of, HaveReadersAt, before_input}
use Rattle.gn_readers.proofs.readers.note_inputs.Given as goal

abbrev pub invariant-loop-input : goal.invariant-loop-input
invariant-loop-input g l = record {
  noted : HaveReadersAt l.graph (before_input l.node l.input) (lists_of l.readers.items);
}
