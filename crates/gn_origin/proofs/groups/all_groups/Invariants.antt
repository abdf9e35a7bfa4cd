use Rattle.std.proofs.Common.{◌≡◌, ◌++◌, drop, map}
use Rattle.gn_origin.proofs.groups.all_groups.Given as goal

abbrev pub invariant-loop-group : goal.invariant-loop-group
invariant-loop-group l = map (λ list. list.group.now) l.lists.items ++ drop l.group-index l.groups ≡ l.groups
