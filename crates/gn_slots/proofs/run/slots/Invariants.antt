use Rattle.std.proofs.Common.{take}
use Rattle.gn_slots.specs.Registers.{AreSlots}
use Rattle.gn_slots.proofs.run.slots.Given as goal

abbrev pub invariant-loop-kind : goal.invariant-loop-kind
invariant-loop-kind l = AreSlots l.count (take l.kind-index l.kinds) l.registers.items
