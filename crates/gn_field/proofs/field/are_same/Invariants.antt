use Rattle.std.proofs.Common.{◌≡◌, take}
use Rattle.gn_field.specs.Steps.{keys}
use Rattle.gn_field.proofs.field.are_same.Given as goal

abbrev pub invariant-loop-at : goal.invariant-loop-at
invariant-loop-at g l = keys (take l.at l.steps) ≡ keys (take l.at l.others)
