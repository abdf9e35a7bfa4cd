use Rattle.gn_mask.specs.Segments.{elements, rest, IsAt}
use Rattle.gn_mask.proofs.Parts.{AreCut}
use Rattle.gn_mask.proofs.mask.cut.Given as goal

abbrev pub invariant-loop-left : goal.invariant-loop-left
invariant-loop-left l = record {
  at : IsAt l.segments l.at.index l.at.from;
  cut : AreCut l.size l.left (elements l.segments) (rest l.segments l.at.index l.at.from) l.parts.items;
}

abbrev pub decreases-loop-left : goal.decreases-loop-left
decreases-loop-left l = l.left
