use Rattle.std.proofs.Common.{◌≡◌, ◌<◌, ℕ, length, slice_index_or}
use Rattle.gn_value.specs.Rows.{chosen}
use Rattle.gn_registers.specs.Arguments.{arguments}
use Rattle.gn_kernel.proofs.selection.select.Given as goal

-- the choice among the cases so far stands at each position
abbrev pub invariant-loop-case : goal.invariant-loop-case
invariant-loop-case g l = (k : ℕ) → k < length l.into →
    g.T.OfKind.as_value (slice_index_or l.into k g.T.OfKind.zero) ≡ chosen g.T.OfKind.KIND l.case (arguments k l.args)
