use Rattle.std.proofs.Common.{◌≡◌, map, take, get_or}
use Rattle.gn_schedule.proofs.plan.slots_of.Given as goal

abbrev pub invariant-loop-step : goal.invariant-loop-step
invariant-loop-step l = l.found.items ≡ map (λ k. get_or l.slots k 0) (take l.step-index l.steps)
