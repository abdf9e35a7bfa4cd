use Rattle.std.proofs.Common.{◌≡◌, length}
use Rattle.gn_interp.specs.Numbers.{vector_at}
use Rattle.gn_interp.proofs.Gathering.{AreFirst}
use Rattle.gn_interp.proofs.numbers.vectors.Given as goal

-- the first vectors
abbrev pub invariant-loop-at : goal.invariant-loop-at
invariant-loop-at l = record {
  long : length l.vectors.items ≡ l.at;
  vectors : AreFirst (vector_at l.x l.y l.z) l.at l.vectors.items;
}
