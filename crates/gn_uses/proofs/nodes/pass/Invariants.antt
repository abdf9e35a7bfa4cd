use Rattle.std.proofs.Common.{◌-◌, IsTrue, take}
use Rattle.gn_uses.specs.Nodes.{all_set}
use Rattle.gn_uses.proofs.nodes.pass.Given as goal

abbrev pub invariant-loop-at : goal.invariant-loop-at
invariant-loop-at l = IsTrue (all_set (take l.at l.filled))

abbrev pub decreases-loop-at : goal.decreases-loop-at
decreases-loop-at l = l.front - l.at
