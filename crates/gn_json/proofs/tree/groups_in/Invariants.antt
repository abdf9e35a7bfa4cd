use Rattle.std.proofs.Common.{◌≡◌, ◌++◌, drop, map}
use Rattle.serde_json.specs.View.{items_view}
use Rattle.gn_tree.specs.Seen.{group_of}
use Rattle.gn_json.specs.Typed.{groups_in}
use Rattle.gn_json.proofs.tree.groups_in.Given as goal

abbrev pub invariant-loop-item : goal.invariant-loop-item
invariant-loop-item l = map group_of l.groups.items ++ groups_in (items_view (drop l.item-index l.items)) ≡ groups_in (items_view l.items)
