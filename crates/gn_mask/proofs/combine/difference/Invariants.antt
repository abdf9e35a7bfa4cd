use Rattle.std.proofs.Common.{◌≡◌, ℕ, ◌+◌, ◌<◌, ◌^◌, ◌&&◌, ◌||◌, not, max, length}
use Rattle.std.specs.Prelude.{nat_le}
use Rattle.gn_mask.specs.Segments.{covers, start_of, Rises}
use Rattle.gn_mask.proofs.combine.difference.Given as goal

abbrev pub invariant-loop-a_left : goal.invariant-loop-a_left
invariant-loop-a_left l = record {
  a : Rises 0 (2 ^ 32) l.a_left;
  b : Rises 0 (2 ^ 32) l.b_left;
  from : l.from < 2 ^ 32;
  rises : Rises 0 (max l.from (start_of l.a_left) + 1) l.rest.items;
  covers : (n : ℕ) → (covers l.rest.items n || ((nat_le l.from n && covers l.a_left n) && not (covers l.b_left n))) ≡ (covers l.a n && not (covers l.b n));
}

abbrev pub decreases-loop-a_left : goal.decreases-loop-a_left
decreases-loop-a_left l = length l.a_left + length l.b_left
