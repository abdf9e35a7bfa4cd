use Rattle.std.proofs.Common.{◌≡◌, ◌<◌, ℕ, slice_index_or}
use Rattle.gn_registers.proofs.loops.set_all.Given as goal

-- what holds at each position so far
abbrev pub invariant-loop-k : goal.invariant-loop-k
invariant-loop-k g l = (j : ℕ) (r : _) → j < l.k → slice_index_or l.into j r ≡ l.value
