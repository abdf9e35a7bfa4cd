use Rattle.gn_run.proofs.Putting.{SomePut}
use Rattle.gn_run.proofs.columns.put_part.Given as goal

-- the values of the first registers are put
abbrev pub invariant-loop-k : goal.invariant-loop-k
invariant-loop-k l = SomePut l.part.elements.items l.k l.part.registers.items l.initial.registers l.registers
