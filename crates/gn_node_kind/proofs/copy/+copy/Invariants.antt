use Rattle.std.proofs.Common.{◌≡◌, ◌+◌, ◌*◌, ◌++◌, drop}
use Rattle.gn_tree.specs.Trees.{node_size, settings_size, nodes_size, no_settings}
use Rattle.gn_tree.specs.Seen.{nodes_of, settings_of, setting_then, settings_then}
use Rattle.gn_node_kind.proofs.copy.+copy.Given as goal

abbrev pub invariant-settings-loop-item : goal.invariant-settings-loop-item
invariant-settings-loop-item l = settings_then l.copy.items (settings_of (drop l.item-index l.item-items)) ≡ settings_of l.item-items

abbrev pub invariant-nodes-loop-item : goal.invariant-nodes-loop-item
invariant-nodes-loop-item l = l.copy.items ++ drop l.item-index l.item-items ≡ l.item-items

abbrev pub decreases-node : goal.decreases-node
decreases-node l = 5 * node_size l.node.now

abbrev pub decreases-settings : goal.decreases-settings
decreases-settings l = 5 * settings_size (settings_of l.list.now.items) + 4

abbrev pub decreases-setting : goal.decreases-setting
decreases-setting l = 5 * settings_size (setting_then l.setting.now no_settings) + 3

abbrev pub decreases-zone : goal.decreases-zone
decreases-zone l = 5 * nodes_size (nodes_of l.zone.now.nodes.items) + 2

abbrev pub decreases-nodes : goal.decreases-nodes
decreases-nodes l = 5 * nodes_size (nodes_of l.list.now.items) + 1
