use Rattle.std.proofs.Common.{◌≡◌, ◌+◌, ◌*◌, ◌<◌, ◌^◌, drop}
use Rattle.gn_tree.specs.Trees.{node_size, settings_size, nodes_size, no_settings}
use Rattle.gn_tree.specs.Seen.{nodes_of, settings_of, setting_then}
use Rattle.gn_rules.specs.Measures as measures
use Rattle.gn_measure.specs.Capped.{capped}
use Rattle.gn_measure.specs.Measures.{known}
use Rattle.gn_measure.proofs.measure.+count.Given as goal

abbrev pub invariant-count_in-loop-setting : goal.invariant-count_in-loop-setting
invariant-count_in-loop-setting l =
    (l.all < 2 ^ 64)
    × (capped (l.all + measures.count_in (known l.groups) (settings_of (drop l.setting-index l.setting-items))) ≡ capped (measures.count_in (known l.groups) (settings_of l.setting-items)))

abbrev pub invariant-counts-loop-node : goal.invariant-counts-loop-node
invariant-counts-loop-node l =
    (l.all < 2 ^ 64)
    × (capped (l.all + measures.counts (known l.groups) (nodes_of (drop l.node-index l.node-items))) ≡ capped (measures.counts (known l.groups) (nodes_of l.node-items)))

abbrev pub decreases-count : goal.decreases-count
decreases-count l = 4 * node_size l.node.now

abbrev pub decreases-count_of : goal.decreases-count_of
decreases-count_of l = 4 * settings_size (setting_then l.setting.now no_settings) + 2

abbrev pub decreases-count_in : goal.decreases-count_in
decreases-count_in l = 4 * settings_size (settings_of l.settings.now.items) + 3

abbrev pub decreases-counts : goal.decreases-counts
decreases-counts l = 4 * nodes_size (nodes_of l.nodes.now.items) + 1
