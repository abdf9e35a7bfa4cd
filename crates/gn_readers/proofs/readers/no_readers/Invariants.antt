use Rattle.std.proofs.Common.{◌≡◌, [], replicate}
use Rattle.gn_readers.specs.Readers.{lists_of}
use Rattle.gn_readers.proofs.readers.no_readers.Given as goal

abbrev pub invariant-loop-at : goal.invariant-loop-at
invariant-loop-at l = record {
  empty : lists_of l.readers.items ≡ replicate l._at [];
}
