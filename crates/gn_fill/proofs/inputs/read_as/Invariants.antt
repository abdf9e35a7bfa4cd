use Rattle.std.proofs.Common.{◌≡◌, ◌<◌, ℕ, slice_index, slice_index_or}
use Rattle.gn_plain.specs.Contexts.{input_at}
use Rattle.gn_field.specs.Steps.{plain_input}
use Rattle.gn_fill.proofs.inputs.read_as.Given as goal

-- what holds at each position so far
abbrev pub invariant-loop-k : goal.invariant-loop-k
invariant-loop-k g l = (j : ℕ) (d : _) → j < l.k → g.T.OfKind.as_value (slice_index_or l.into j d) ≡ input_at (g.C.Context.meaning l.context) (plain_input l.input) (slice_index l.elements j)
