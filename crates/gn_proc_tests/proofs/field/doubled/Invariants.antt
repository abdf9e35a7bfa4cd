use Rattle.std.proofs.Common.{◌≡◌, None}
use Rattle.gn_value.specs.declared.value.ValueKind.TheVariants.{Int}
use Rattle.gn_plain.specs.Fields.{kind_of_field}
use Rattle.gn_field.specs.Trees.{HasSources}
use Rattle.gn_proc_tests.proofs.field.doubled.Given as goal

abbrev pub invariant-loop : goal.invariant-loop
invariant-loop g l = (kind_of_field g.S.Source.sources l.field ≡ Int) × HasSources (λ _. None) l.field
