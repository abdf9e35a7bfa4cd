use Rattle.std.proofs.Common.{◌≡◌, ◌+◌, length, drop}
use Rattle.gn_mask.specs.Segments.{elements}
use Rattle.gn_mask.proofs.mask.count.Given as goal

abbrev pub invariant-loop-segment : goal.invariant-loop-segment
invariant-loop-segment l = l.count + length (elements (drop l.segment-index l.segments)) ≡ length (elements l.segments)
