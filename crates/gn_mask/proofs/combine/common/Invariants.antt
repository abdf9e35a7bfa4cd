use Rattle.std.proofs.Common.{◌≡◌, ℕ, ◌+◌, ◌^◌, ◌&&◌, ◌||◌, max, length}
use Rattle.gn_mask.specs.Segments.{covers, start_of, Rises}
use Rattle.gn_mask.proofs.combine.common.Given as goal

abbrev pub invariant-loop-a_left : goal.invariant-loop-a_left
invariant-loop-a_left l = record {
  a : Rises 0 (2 ^ 32) l.a_left;
  b : Rises 0 (2 ^ 32) l.b_left;
  rises : Rises 0 (max (start_of l.a_left) (start_of l.b_left) + 1) l.both.items;
  covers : (n : ℕ) → (covers l.both.items n || (covers l.a_left n && covers l.b_left n)) ≡ (covers l.a n && covers l.b n);
}

abbrev pub decreases-loop-a_left : goal.decreases-loop-a_left
decreases-loop-a_left l = length l.a_left + length l.b_left
