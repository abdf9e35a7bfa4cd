use Rattle.std.proofs.Common.{◌≡◌, take, length}
use Rattle.gn_interp.specs.Gathered.{AreGathered, total_of}
use Rattle.gn_interp.proofs.Gathering.{AreBounded}
use Rattle.gn_interp.proofs.gather.totals.Given as goal

-- what was taken so far
abbrev pub invariant-loop-taker : goal.invariant-loop-taker
invariant-loop-taker l = record {
  long : length l.totals.items ≡ l.count;
  gathered : AreGathered (total_of l.values) (take l.taker-index l.takings) l.totals.items;
  bounded : AreBounded l.taker-index l.totals.items;
}
