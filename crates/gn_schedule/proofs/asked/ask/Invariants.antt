use Rattle.std.proofs.Common.{take}
use Rattle.gn_schedule.specs.Asked.{AsksFor}
use Rattle.gn_schedule.proofs.asked.ask.Given as goal

abbrev pub invariant-loop-arg : goal.invariant-loop-arg
invariant-loop-arg l = AsksFor l.places (take l.arg-index l.args) l.initial.table.items l.table.items
