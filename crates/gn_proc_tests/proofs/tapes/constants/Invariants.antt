use Rattle.std.proofs.Common.{◌≡◌, None, length}
use Rattle.gn_field.specs.Steps.{exprs_of}
use Rattle.gn_field.specs.Trees.{HaveSources}
use Rattle.gn_proc_tests.proofs.tapes.constants.Given as goal

abbrev pub invariant-loop-value : goal.invariant-loop-value
invariant-loop-value g l = (length l.fields.items ≡ l.value) × HaveSources (λ _. None) (exprs_of l.fields.items)
