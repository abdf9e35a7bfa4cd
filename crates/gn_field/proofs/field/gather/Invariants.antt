use Rattle.std.proofs.Common.{take}
use Rattle.gn_field.specs.Merged.{Gathers}
use Rattle.gn_field.proofs.field.gather.Given as goal

-- the first fields are gathered
abbrev pub invariant-loop-field : goal.invariant-loop-field
invariant-loop-field g l = Gathers g.S.Source.sources g.S.Source.taken (take l.field-index l.fields) l.steps.items l.roots.items
