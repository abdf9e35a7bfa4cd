use Rattle.std.proofs.Common.{◌≡◌, length}
use Rattle.gn_plain.specs.Fields.{leading}
use Rattle.gn_interp.proofs.Gathering.{AreFirst}
use Rattle.gn_elsewhere.specs.Sums.{AreSums, total_at}
use Rattle.gn_elsewhere.proofs.totals.leading.Given as goal

-- the sums of the groups so far, and those of the first elements
abbrev pub invariant-loop-at : goal.invariant-loop-at
invariant-loop-at l = record {
  wide : length l.sums.items ≡ l.groups.count;
  sums : AreSums l.numbers l.groups.of.items l.at l.sums.items;
  long : length l.totals.items ≡ l.at;
  totals : AreFirst (total_at leading l.numbers l.groups.of.items) l.at l.totals.items;
}
