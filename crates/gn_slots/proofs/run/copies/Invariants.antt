use Rattle.std.proofs.Common.{take}
use Rattle.gn_slots.specs.Registers.{AreCopies}
use Rattle.gn_slots.proofs.run.copies.Given as goal

abbrev pub invariant-loop-slot : goal.invariant-loop-slot
invariant-loop-slot l = AreCopies l.registers (take l.slot-index l.slots) l.copies.items
