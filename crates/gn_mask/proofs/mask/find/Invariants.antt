use Rattle.std.proofs.Common.{◌≡◌, drop}
use Rattle.std.specs.List.{slice_get}
use Rattle.gn_mask.specs.Segments.{elements}
use Rattle.gn_mask.proofs.mask.find.Given as goal

abbrev pub invariant-loop-segment : goal.invariant-loop-segment
invariant-loop-segment l = slice_get (elements (drop l.segment-index l.segments)) l.left ≡ slice_get (elements l.segments) l.position
