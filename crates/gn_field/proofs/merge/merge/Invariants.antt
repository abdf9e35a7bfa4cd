use Rattle.gn_field.proofs.Merging.{IsMerging}
use Rattle.gn_field.proofs.merge.merge.Given as goal

abbrev pub invariant-loop-other : goal.invariant-loop-other
invariant-loop-other g l = IsMerging l.initial.steps.items l.others l.steps.items l.places.items l.other-index
