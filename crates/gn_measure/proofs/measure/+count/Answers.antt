use Rattle.std.proofs.Common.{◌≤◌, subst, arith}
use Rattle.gn_tree.specs.Trees.{node_size, settings_size, nodes_size, no_settings}
use Rattle.gn_tree.specs.Seen.{nodes_of, settings_of, setting_then}
use Rattle.gn_measure.proofs.Within.{node_within, setting_within}
use Rattle.gn_measure.proofs.measure.+count.Goals as goal

pub count_in-count_of-requires : goal.count_in-count_of-requires
count_in-count_of-requires t c =
    let x = c.setting-item.result in
    let inside : settings_size (setting_then x no_settings) ≤ settings_size (settings_of c.deref-setting-items.result.now) = setting_within c.deref-setting-items.result.now c.loop-setting.setting-index x x c.loop-setting-test.true c.setting-item.is in
    let here : settings_size (setting_then x no_settings) ≤ settings_size (settings_of c.args.settings.now.items) = subst (λ xs. settings_size (setting_then x no_settings) ≤ settings_size (settings_of xs)) c.deref-setting-items.ensures.value inside in
    (omega (arith, c.decreases), tt)

pub counts-count-requires : goal.counts-count-requires
counts-count-requires t c =
    let x = c.node-item.result in
    let inside : node_size x ≤ nodes_size (nodes_of c.deref-node-items.result.now) = node_within c.deref-node-items.result.now c.loop-node.node-index x x c.loop-node-test.true c.node-item.is in
    let here : node_size x ≤ nodes_size (nodes_of c.args.nodes.now.items) = subst (λ xs. node_size x ≤ nodes_size (nodes_of xs)) c.deref-node-items.ensures.value inside in
    (omega (arith, c.decreases), tt)
