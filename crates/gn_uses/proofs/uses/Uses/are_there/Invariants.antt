use Rattle.std.proofs.Common.{take}
use Rattle.gn_uses.specs.Nodes.{HasRoom}
use Rattle.gn_uses.proofs.uses.Uses.are_there.Given as goal

abbrev pub invariant-loop-input : goal.invariant-loop-input
invariant-loop-input l = HasRoom l.self.nodes.sizes (take l.input-index l.inputs)
