use Rattle.std.proofs.Common.{ℕ, ◌<◌, ◌≤◌, get_or}
use Rattle.gn_nearest.specs.Boxes.{IsOf, candidate, points_of, rank}
use Rattle.gn_nearest.specs.declared.candidate.Entry.{Entry}
use Rattle.gn_nearest.proofs.search.scan.Given as goal

abbrev pub invariant-loop-position : goal.invariant-loop-position
invariant-loop-position l = record {
  of : IsOf (points_of l.entries) l.to l.best;
  kept : rank l.best ≤ rank l.fn.best;
  first : (p : ℕ) (d : Entry) → l.fn.part.from ≤ p → p < l.position → rank l.best ≤ rank (candidate l.to (get_or l.entries p d));
}
