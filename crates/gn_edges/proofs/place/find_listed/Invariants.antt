use Rattle.std.proofs.Common.{◌≡◌, ◌≤◌, length}
use Rattle.gn_edges.specs.Kept.{walk}
use Rattle.gn_edges.proofs.place.find_listed.Given as goal

abbrev pub invariant-loop-left : goal.invariant-loop-left
invariant-loop-left l = record {
  same : walk l.pairs l.next l.edge l.left l.link ≡ walk l.pairs l.next l.edge 8 l.first;
  link : l.link ≤ length l.pairs;
}

abbrev pub decreases-loop-left : goal.decreases-loop-left
decreases-loop-left l = l.left
