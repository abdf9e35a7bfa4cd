use Rattle.std.proofs.Common.{◌≡◌, ◌++◌, drop, map}
use Rattle.gn_tree.specs.Seen.{group_of}
use Rattle.gn_node_kind.proofs.copy.copy_groups.Given as goal

abbrev pub invariant-loop-item : goal.invariant-loop-item
invariant-loop-item l = map group_of l.copy.items ++ map group_of (drop l.item-index l.list) ≡ map group_of l.list
