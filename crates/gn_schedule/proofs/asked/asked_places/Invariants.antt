use Rattle.std.proofs.Common.{◌≤◌, length}
use Rattle.gn_schedule.specs.Asked.{IsAsking}
use Rattle.gn_schedule.proofs.asked.asked_places.Given as goal

abbrev pub invariant-loop-at : goal.invariant-loop-at
invariant-loop-at g l = IsAsking l.steps l.roots l.fn.place l.at l.table.items × (l.at ≤ length l.steps)

abbrev pub decreases-loop-at : goal.decreases-loop-at
decreases-loop-at g l = l.at
