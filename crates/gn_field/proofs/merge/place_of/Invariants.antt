use Rattle.std.proofs.Common.{take}
use Rattle.gn_node_set.specs.Meanings.{Has}
use Rattle.gn_field.specs.Steps.{key_of, keys}
use Rattle.gn_field.proofs.merge.place_of.Given as goal

-- none of the steps so far is the same
abbrev pub invariant-loop-at : goal.invariant-loop-at
invariant-loop-at g l = ¬ Has (keys (take l.at l.steps)) (key_of l.step)
