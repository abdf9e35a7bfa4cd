use Rattle.std.proofs.Common.{take}
use Rattle.gn_schedule.specs.Plans.{Marks}
use Rattle.gn_schedule.proofs.readers.mark.Given as goal

abbrev pub invariant-loop-arg : goal.invariant-loop-arg
invariant-loop-arg l = Marks l.reader (take l.arg-index l.args) l.initial.readers.items l.readers.items
