use Rattle.std.proofs.Common.{◌+◌, ◌-◌, ◌≤◌, length}
use Rattle.gn_cycle.specs.Graph.{lists}
use Rattle.gn_cycle.specs.Search.{Reached, unmet}
use Rattle.gn_cycle.proofs.search.leads_back.Given as goal

abbrev pub invariant-loop-at : goal.invariant-loop-at
invariant-loop-at l = record { reached : Reached (lists l.targets) l.start (l.met.items, l.queue.items) l.at; within : l.at ≤ length l.queue.items }

abbrev pub decreases-loop-at : goal.decreases-loop-at
decreases-loop-at l = unmet l.met.items + length l.queue.items - l.at
