use Rattle.std.proofs.Common.{◌≡◌, ◌<◌, ℕ, slice_index_or}
use Rattle.std.specs.Prelude.{pos}
use Rattle.gn_value.specs.Registers.{register_kind, register_len, register_value}
use Rattle.gn_value.specs.Values.{zero_of}
use Rattle.gn_plain.specs.Fields.{element_or}
use Rattle.gn_fill.proofs.picked.pick_at_as.Given as goal

-- what holds at each position so far
abbrev pub invariant-loop-k : goal.invariant-loop-k
invariant-loop-k g l = (j : ℕ) (d : _) → j < l.k → g.T.OfKind.as_value (slice_index_or l.into j d) ≡ element_or (slice_index_or l.indices j (pos 0)) (register_len l.from) (λ i. register_value i l.from) (zero_of (register_kind l.from))
