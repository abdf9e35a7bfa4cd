use Rattle.std.proofs.Common.{◌≡◌, drop, map}
use Rattle.gn_tree.specs.Seen.{group_of}
use Rattle.gn_rules.specs.Walk as walk
use Rattle.gn_rules.specs.Walk.{breaks}
use Rattle.gn_check.proofs.walk.first_group.Given as goal

abbrev pub invariant-loop-group : goal.invariant-loop-group
invariant-loop-group l =
    (l.number ≡ l.group-index)
    × (walk.first_group (breaks l.sought) (map group_of l.groups.list.now) l.group-index (map group_of (drop l.group-index l.groups.list.now))
    ≡ walk.first_group (breaks l.sought) (map group_of l.groups.list.now) 0 (map group_of l.groups.list.now))
