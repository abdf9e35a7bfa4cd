use Rattle.std.proofs.Common.{take}
use Rattle.gn_field.specs.Merged.{IsBehind}
use Rattle.gn_field.proofs.merge.behind.Given as goal

abbrev pub invariant-loop-place : goal.invariant-loop-place
invariant-loop-place l = IsBehind l.behind (take l.place-index l.places)
