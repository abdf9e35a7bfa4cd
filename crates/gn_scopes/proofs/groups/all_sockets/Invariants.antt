use Rattle.std.proofs.Common.{◌≡◌, ◌++◌, drop, map}
use Rattle.gn_tree.specs.Seen.{group_of}
use Rattle.gn_scopes.specs.Groups.{lists_in, side_of}
use Rattle.gn_scopes.proofs.groups.all_sockets.Given as goal

abbrev pub invariant-loop-group : goal.invariant-loop-group
invariant-loop-group l = lists_in l.sockets.items ++ map (side_of l.side) (map group_of (drop l.group-index l.list)) ≡ map (side_of l.side) (map group_of l.list)
