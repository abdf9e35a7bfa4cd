use Rattle.std.proofs.Common.{◌≡◌, length}
use Rattle.gn_plain.specs.Fields.{total}
use Rattle.gn_interp.proofs.Gathering.{AreFirst}
use Rattle.gn_elsewhere.specs.Sums.{total_at}
use Rattle.gn_elsewhere.proofs.totals.total.Given as goal

-- the sums of the first elements
abbrev pub invariant-loop-group : goal.invariant-loop-group
invariant-loop-group l = record {
  long : length l.totals.items ≡ l.group-index;
  totals : AreFirst (total_at total l.numbers l.groups.of.items) l.group-index l.totals.items;
}
