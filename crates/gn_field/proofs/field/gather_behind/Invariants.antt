use Rattle.std.proofs.Common.{take}
use Rattle.gn_field.specs.Merged.{IsGathering, filled}
use Rattle.gn_field.proofs.field.gather_behind.Given as goal

abbrev pub invariant-loop-field : goal.invariant-loop-field
invariant-loop-field g l = IsGathering g.S.Source.sources g.S.Source.taken l.fn.base l.root (take l.field-index (filled l.fn.base l.rest)) l.steps.items l.roots.items
