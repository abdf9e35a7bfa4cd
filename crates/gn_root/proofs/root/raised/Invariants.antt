use Rattle.std.proofs.Common.{◌≤◌, ◌*◌, ◌-◌, ◌^◌}
use Rattle.gn_root.proofs.root.raised.Given as goal

abbrev pub invariant-loop-root : goal.invariant-loop-root
invariant-loop-root l = l.root * l.root ≤ l.n

abbrev pub decreases-loop-root : goal.decreases-loop-root
decreases-loop-root l = 2 ^ 64 - l.root
