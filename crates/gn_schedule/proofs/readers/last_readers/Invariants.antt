use Rattle.std.proofs.Common.{◌≤◌, length}
use Rattle.gn_schedule.specs.Plans.{IsReading}
use Rattle.gn_schedule.proofs.readers.last_readers.Given as goal

abbrev pub invariant-loop-at : goal.invariant-loop-at
invariant-loop-at g l = IsReading l.steps l.roots l.at l.readers.items × (l.at ≤ length l.steps)

abbrev pub decreases-loop-at : goal.decreases-loop-at
decreases-loop-at g l = l.at
