use Rattle.std.proofs.Common.{take}
use Rattle.gn_field.specs.Steps.{built}
use Rattle.gn_schedule.specs.Plans.{held}
use Rattle.gn_slots.specs.Registers.{IsRun}
use Rattle.gn_slots.proofs.run.run_plan.Given as goal

abbrev pub invariant-loop-at : goal.invariant-loop-at
invariant-loop-at g l = IsRun g.S.Source.sources (built l.steps) (g.C.Context.meaning l.context) l.elements l.plan.kinds.items (held (take l.at l.plan.instructions.items)) l.registers.items
