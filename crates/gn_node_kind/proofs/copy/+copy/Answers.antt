use Rattle.std.proofs.Common.{◌≤◌, ◌∙◌, suc, drop, ap, sym, subst, arith, add-one, drop-cons}
use Rattle.gn_tree.specs.Trees.{node_size, settings_size, nodes_size, no_settings}
use Rattle.gn_tree.specs.Seen.{nodes_of, settings_of, setting_then, settings_then}
use Rattle.gn_measure.proofs.Within.{node_within, setting_within}
use Rattle.gn_node_kind.proofs.Lists.{settings_push}
use Rattle.gn_node_kind.proofs.copy.+copy.Goals as goal

pub settings-setting-requires : goal.settings-setting-requires
settings-setting-requires t c =
    let x = c.item-item.result in
    let inside : settings_size (setting_then x no_settings) ≤ settings_size (settings_of c.deref-item-items.result.now) = setting_within c.deref-item-items.result.now c.loop-item.item-index x x c.loop-item-test.true c.item-item.is in
    let here : settings_size (setting_then x no_settings) ≤ settings_size (settings_of c.args.list.now.items) = subst (λ xs. settings_size (setting_then x no_settings) ≤ settings_size (settings_of xs)) c.deref-item-items.ensures.value inside in
    (omega (arith, c.decreases), tt)

pub nodes-node-requires : goal.nodes-node-requires
nodes-node-requires t c =
    let x = c.item-item.result in
    let inside : node_size x ≤ nodes_size (nodes_of c.deref-item-items.result.now) = node_within c.deref-item-items.result.now c.loop-item.item-index x x c.loop-item-test.true c.item-item.is in
    let here : node_size x ≤ nodes_size (nodes_of c.args.list.now.items) = subst (λ xs. node_size x ≤ nodes_size (nodes_of xs)) c.deref-item-items.ensures.value inside in
    (omega (arith, c.decreases), tt)

pub settings-loop-item-preserved : goal.settings-loop-item-preserved
settings-loop-item-preserved t c =
    let xs = c.deref-item-items.result.now in
    let i = c.loop-item.item-index in
    let x = c.item-item.result in
    let y = c.in_ok-setting.field-0 in
    let rest = settings_of (drop (suc i) xs) in
    ap (λ n. settings_then c.push.new.self.items (settings_of (drop n xs))) (add-one i)
    ∙ ap (λ l. settings_then l rest) c.in_ok-push.ensures.items
    ∙ settings_push c.loop-item.copy.items y rest
    ∙ ap (settings_then c.loop-item.copy.items) (c.in_ok-setting.ensures rest)
    ∙ ap (λ v. settings_then c.loop-item.copy.items (setting_then v rest)) c.item-item.is
    ∙ sym (ap (λ l. settings_then c.loop-item.copy.items (settings_of l)) (drop-cons xs i x c.loop-item-test.true))
    ∙ c.loop-item.invariant
