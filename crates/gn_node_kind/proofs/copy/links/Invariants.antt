use Rattle.std.proofs.Common.{◌≡◌, ◌++◌, drop, map}
use Rattle.gn_tree.specs.Seen.{link_of}
use Rattle.gn_node_kind.proofs.copy.links.Given as goal

abbrev pub invariant-loop-item : goal.invariant-loop-item
invariant-loop-item l = map link_of l.copy.items ++ map link_of (drop l.item-index l.list) ≡ map link_of l.list
