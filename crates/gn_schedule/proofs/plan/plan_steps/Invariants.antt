use Rattle.gn_schedule.specs.Plans.{IsPlanning}
use Rattle.gn_schedule.proofs.plan.plan_steps.Given as goal

abbrev pub invariant-loop-at : goal.invariant-loop-at
invariant-loop-at g l = IsPlanning g.S.Source.sources l.steps l.readers l.at l.planning
