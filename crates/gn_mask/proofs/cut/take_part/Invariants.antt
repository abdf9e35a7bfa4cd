use Rattle.std.proofs.Common.{◌≡◌, ◌+◌, ◌-◌, ◌<◌, ◌^◌, ◌++◌, length, take, drop}
use Rattle.gn_mask.specs.Segments.{elements, rest, IsAt, Rises}
use Rattle.gn_mask.proofs.cut.take_part.Given as goal

abbrev pub invariant-loop-index : goal.invariant-loop-index
invariant-loop-index l = record {
  at : IsAt l.segments l.index l.from;
  fits : l.from < 2 ^ 32;
  rises : Rises 0 (l.from + 1) l.part.items;
  taken : elements l.part.items ++ take l.left (rest l.segments l.index l.from) ≡ take l.size (rest l.segments l.fn.at.index l.fn.at.from);
  kept : drop l.left (rest l.segments l.index l.from) ≡ drop l.size (rest l.segments l.fn.at.index l.fn.at.from);
}

abbrev pub decreases-loop-index : goal.decreases-loop-index
decreases-loop-index l = length l.segments - l.index
