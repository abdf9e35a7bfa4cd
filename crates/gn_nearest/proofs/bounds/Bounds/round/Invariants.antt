use Rattle.std.proofs.Common.{ℕ, ◌<◌, get_or}
use Rattle.gn_nearest.specs.Boxes.{IsInside}
use Rattle.gn_nearest.specs.declared.candidate.Entry.{Entry}
use Rattle.gn_nearest.proofs.bounds.Bounds.round.Given as goal

abbrev pub invariant-loop-entry : goal.invariant-loop-entry
invariant-loop-entry l = (k : ℕ) (d : Entry) → k < l.entry-index → IsInside l.bounds (get_or l.entries k d)
