use Rattle.std.proofs.Common.{◌≡◌, ◌<◌, ℕ, slice_index_or}
use Rattle.gn_value.specs.Registers.{register_value}
use Rattle.gn_fill.proofs.inputs.sample_as.Given as goal

-- what holds at each position so far
abbrev pub invariant-loop-k : goal.invariant-loop-k
invariant-loop-k g l = (j : ℕ) (d : _) → j < l.k → g.T.OfKind.as_value (slice_index_or l.into j d) ≡ g.S.Source.sources.value l.source (register_value j l.arg)
