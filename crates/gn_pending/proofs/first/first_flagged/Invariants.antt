use Rattle.std.proofs.Common.{take}
use Rattle.gn_pending.specs.Flags.{IsFirstOf}
use Rattle.gn_pending.proofs.first.first_flagged.Given as goal

abbrev pub invariant-loop-number : goal.invariant-loop-number
invariant-loop-number g l = record {
  so_far : IsFirstOf l.graph.nodes l.flags (take l.number-index l.numbers) l.first;
}
