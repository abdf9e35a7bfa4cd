use Rattle.std.proofs.Common.{◌≡◌, ◌++◌, drop}
use Rattle.gn_mask.specs.Segments.{elements}
use Rattle.gn_mask.proofs.mask.listed.Given as goal

abbrev pub invariant-loop-segment : goal.invariant-loop-segment
invariant-loop-segment l = l.numbers.items ++ elements (drop l.segment-index l.segments) ≡ elements l.segments
