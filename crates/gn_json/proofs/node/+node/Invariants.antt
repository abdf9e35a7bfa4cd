use Rattle.std.proofs.Common.{◌≡◌, ◌++◌, drop, map}
use Rattle.serde_json.specs.View.{items_view, members_view}
use Rattle.gn_kinds.specs.Seen.{setting_of}
use Rattle.gn_json.specs.Typed.{settings_among, nodes_among, nodes_in}
use Rattle.gn_json.proofs.node.+node.Given as goal

abbrev pub invariant-settings_among-loop-key : goal.invariant-settings_among-loop-key
invariant-settings_among-loop-key l =
    settings_among (map setting_of l.forms) (members_view l.key-iterator) ≡ settings_among (map setting_of l.forms) (members_view l.members.entries)

abbrev pub invariant-nodes_among-loop-key : goal.invariant-nodes_among-loop-key
invariant-nodes_among-loop-key l = nodes_among (members_view l.key-iterator) ≡ nodes_among (members_view l.members.entries)

abbrev pub invariant-nodes_in-loop-item : goal.invariant-nodes_in-loop-item
invariant-nodes_in-loop-item l = l.nodes.items ++ nodes_in (items_view (drop l.item-index l.item-items)) ≡ nodes_in (items_view l.item-items)
