use Rattle.std.proofs.Common.{◌≡◌, take, length}
use Rattle.gn_interp.specs.Gathered.{AreGathered, some_truth_over}
use Rattle.gn_interp.proofs.gather.taken_truths.Given as goal

-- what was taken so far
abbrev pub invariant-loop-taker : goal.invariant-loop-taker
invariant-loop-taker l = record {
  long : length l.taken.items ≡ l.count;
  gathered : AreGathered (some_truth_over l.one_suffices l.values) (take l.taker-index l.takings) l.taken.items;
}
