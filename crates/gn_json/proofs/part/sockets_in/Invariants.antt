use Rattle.std.proofs.Common.{◌≡◌, ◌++◌, drop, map}
use Rattle.serde_json.specs.View.{items_view}
use Rattle.gn_tree.specs.Seen.{socket_of}
use Rattle.gn_json.specs.Typed.{sockets_in}
use Rattle.gn_json.proofs.part.sockets_in.Given as goal

abbrev pub invariant-loop-item : goal.invariant-loop-item
invariant-loop-item l = map socket_of l.sockets.items ++ sockets_in (items_view (drop l.item-index l.items)) ≡ sockets_in (items_view l.items)
