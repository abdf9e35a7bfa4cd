use Rattle.std.proofs.Common.{◌<◌, ℕ, slice_index_or}
use Rattle.gn_registers.proofs.loops.each_two.Given as goal

-- what holds at each position so far
abbrev pub invariant-loop-k : goal.invariant-loop-k
invariant-loop-k g l = (j : ℕ) (v : _) (w : _) (r : _) → j < l.k → goal.F-post g l.f (slice_index_or l.a j v) (slice_index_or l.b j w) (slice_index_or l.into j r)
