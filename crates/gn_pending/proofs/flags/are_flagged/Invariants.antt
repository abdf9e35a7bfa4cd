use Rattle.std.proofs.Common.{take}
use Rattle.gn_pending.specs.Flags.{AreFlagged}
use Rattle.gn_pending.proofs.flags.are_flagged.Given as goal

abbrev pub invariant-loop-number : goal.invariant-loop-number
invariant-loop-number l = record {
  so_far : AreFlagged l.flags (take l.number-index l.numbers);
}
