use Rattle.gn_field.specs.Merged.{AreLeft}
use Rattle.gn_field.proofs.field.without_same.Given as goal

abbrev pub invariant-loop-field : goal.invariant-loop-field
invariant-loop-field g l = AreLeft g.S.Source.sources g.S.Source.taken l.base l.yielded l.rest.items
