use Rattle.std.proofs.Common.{◌≡◌, replicate, None}
use Rattle.gn_pending.proofs.flags.empty_slots.Given as goal

abbrev pub invariant-loop-at : goal.invariant-loop-at
invariant-loop-at g l = record {
  empty : l.slots.items ≡ replicate l._at None;
}
