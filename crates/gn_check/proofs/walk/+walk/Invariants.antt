use Rattle.std.proofs.Common.{◌≡◌, ◌+◌, ◌*◌, drop}
use Rattle.gn_tree.specs.Trees.{node_size, settings_size, nodes_size}
use Rattle.gn_tree.specs.Seen.{nodes_of, settings_of}
use Rattle.gn_rules.specs.Walk as walk
use Rattle.gn_rules.specs.Walk.{breaks}
use Rattle.gn_scopes.specs.Seen.{scope_of}
use Rattle.gn_check.proofs.walk.+walk.Given as goal

abbrev pub invariant-first_node-loop-node : goal.invariant-first_node-loop-node
invariant-first_node-loop-node l =
    (l.number ≡ l.node-index)
    × (walk.first_node (breaks l.scope.sought) (scope_of l.scope) l.node-index (nodes_of (drop l.node-index l.scope.nodes.now.items)) ≡ walk.first_node (breaks l.scope.sought) (scope_of l.scope) 0 (nodes_of l.scope.nodes.now.items))

abbrev pub invariant-in_settings-loop-setting : goal.invariant-in_settings-loop-setting
invariant-in_settings-loop-setting l =
    walk.in_settings (breaks l.scope.sought) (scope_of l.scope) (settings_of (drop l.setting-index l.settings)) ≡ walk.in_settings (breaks l.scope.sought) (scope_of l.scope) (settings_of l.settings)

abbrev pub decreases-first_node : goal.decreases-first_node
decreases-first_node l = 4 * nodes_size (nodes_of l.scope.now.nodes.now.items) + 1

abbrev pub decreases-in_node : goal.decreases-in_node
decreases-in_node l = 4 * node_size l.node.now

abbrev pub decreases-in_settings : goal.decreases-in_settings
decreases-in_settings l = 4 * settings_size (settings_of l.settings.now) + 3

abbrev pub decreases-in_zone : goal.decreases-in_zone
decreases-in_zone l = 4 * nodes_size (nodes_of l.zone.now.nodes.items) + 2
