use Rattle.std.proofs.Common.{◌≡◌, ◌+◌, ◌*◌, max, drop}
use Rattle.gn_tree.specs.Trees.{node_size, settings_size, nodes_size, no_settings}
use Rattle.gn_tree.specs.Seen.{nodes_of, settings_of, setting_then}
use Rattle.gn_rules.specs.Measures as measures
use Rattle.gn_measure.specs.Capped.{capped}
use Rattle.gn_measure.specs.Measures.{known}
use Rattle.gn_measure.proofs.measure.+height.Given as goal

abbrev pub invariant-height_in-loop-setting : goal.invariant-height_in-loop-setting
invariant-height_in-loop-setting l =
    max l.highest (capped (measures.height_in (known l.groups) (settings_of (drop l.setting-index l.setting-items)))) ≡ capped (measures.height_in (known l.groups) (settings_of l.setting-items))

abbrev pub invariant-heights-loop-node : goal.invariant-heights-loop-node
invariant-heights-loop-node l =
    max l.highest (capped (measures.heights (known l.groups) (nodes_of (drop l.node-index l.node-items)))) ≡ capped (measures.heights (known l.groups) (nodes_of l.node-items))

abbrev pub decreases-height : goal.decreases-height
decreases-height l = 4 * node_size l.node.now

abbrev pub decreases-height_of : goal.decreases-height_of
decreases-height_of l = 4 * settings_size (setting_then l.setting.now no_settings) + 2

abbrev pub decreases-height_in : goal.decreases-height_in
decreases-height_in l = 4 * settings_size (settings_of l.settings.now.items) + 3

abbrev pub decreases-heights : goal.decreases-heights
decreases-heights l = 4 * nodes_size (nodes_of l.nodes.now.items) + 1
