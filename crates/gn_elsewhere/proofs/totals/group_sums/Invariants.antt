use Rattle.std.proofs.Common.{◌≡◌, length}
use Rattle.gn_elsewhere.specs.Sums.{AreSums}
use Rattle.gn_elsewhere.proofs.totals.group_sums.Given as goal

-- the sums of the groups so far
abbrev pub invariant-loop-at : goal.invariant-loop-at
invariant-loop-at l = record {
  wide : length l.sums.items ≡ l.groups.count;
  sums : AreSums l.numbers l.groups.of.items l.at l.sums.items;
}
