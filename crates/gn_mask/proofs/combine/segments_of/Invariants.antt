use Rattle.std.proofs.Common.{◌≡◌, ◌+◌, ◌≤◌, ◌++◌, false, get_or}
use Rattle.std.specs.List.{filter}
use Rattle.gn_mask.specs.Numbers.{numbers}
use Rattle.gn_mask.specs.Segments.{elements, Rises}
use Rattle.gn_mask.proofs.combine.segments_of.Given as goal

abbrev pub invariant-loop-number : goal.invariant-loop-number
invariant-loop-number l = record {
  within : l.from ≤ l.number;
  rises : Rises 0 (l.from + 1) l.segments.items;
  found : elements l.segments.items ++ numbers l.from l.number ≡ filter (λ n. get_or l.truths n false) (numbers 0 l.number);
}
