use Rattle.std.proofs.Common.{◌≡◌, ◌++◌, drop, map}
use Rattle.serde_json.specs.View.{items_view}
use Rattle.gn_tree.specs.Seen.{link_of}
use Rattle.gn_json.specs.Typed.{links_in}
use Rattle.gn_json.proofs.part.links_in.Given as goal

abbrev pub invariant-loop-item : goal.invariant-loop-item
invariant-loop-item l = map link_of l.links.items ++ links_in (items_view (drop l.item-index l.items)) ≡ links_in (items_view l.items)
