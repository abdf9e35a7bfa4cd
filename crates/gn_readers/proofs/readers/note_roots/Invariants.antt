use Rattle.gn_readers.specs.Readers.{lists_of, HaveReadersAt, before_root}
use Rattle.gn_readers.proofs.readers.note_roots.Given as goal

abbrev pub invariant-loop-root : goal.invariant-loop-root
invariant-loop-root g l = record {
  noted : HaveReadersAt l.graph (before_root l.root) (lists_of l.readers.items);
}
