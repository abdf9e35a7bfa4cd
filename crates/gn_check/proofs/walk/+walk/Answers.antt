use Rattle.std.proofs.Common.{◌≡◌, ◌≤◌, ◌<◌, None, Some, map, codes, option_map, sym, ap, ◌∙◌, subst, arith}
use Rattle.std.specs.Prelude.{slice_get}
use Rattle.std.proofs.lemmas.Option.{slice_get-get_or}
use Rattle.gn_pointers.specs.Pointers.{key, joined}
use Rattle.gn_pointers.specs.Seen.{pointer_of}
use Rattle.gn_tree.specs.Trees.{node_size, settings_size, nodes_size, no_settings}
use Rattle.gn_tree.specs.Seen.{socket_of, named_of, nodes_of, setting_then, settings_of}
use Rattle.gn_rules.specs.Scopes.{zone_scope}
use Rattle.gn_rules.specs.Walk.{breaks, in_node, in_settings, first_node, in_sockets, in_given_out}
use Rattle.gn_tree.specs.Nodes.{settings_in}
use Rattle.gn_scopes.specs.Seen.{scope_of}
use Rattle.gn_check.specs.Zones.{in_inputs_of_node, in_zone}
use Rattle.gn_measure.proofs.Within.{node_within, setting_within}
use Rattle.gn_check.proofs.Walking.{is_same, in_first, in_rest, in_last, size_of_node, node_way, zone_next, zone_smaller, zone_way, nodes_way}
use Rattle.gn_check.proofs.walk.+walk.Goals as goal

pub first_node-in_node-requires : goal.first_node-in_node-requires
first_node-in_node-requires t c =
    let x = c.node-item.result in
    let nodes = c.deref-node-items.result.now in
    let inside : node_size x ≤ nodes_size (nodes_of nodes) = node_within nodes c.loop-node.node-index x x c.loop-node-test.true c.node-item.is in
    let here : node_size x ≤ nodes_size (nodes_of c.args.scope.now.nodes.now.items) = subst (λ xs. node_size x ≤ nodes_size (nodes_of xs)) c.deref-node-items.ensures.value inside in
    let found : slice_get nodes c.loop-node.node-index ≡ Some x = slice_get-get_or nodes c.loop-node.node-index x c.loop-node-test.true ∙ ap Some (sym c.node-item.is) in
    (omega (arith, c.decreases), ap (λ xs. slice_get xs c.loop-node.number) (sym c.deref-node-items.ensures.value) ∙ (ap (slice_get nodes) c.loop-node.invariant.0 ∙ found))

pub in_node-returns-then-is_some : goal.in_node-returns-then-is_some
in_node-returns-then-is_some t c =
    let r = c.args.scope.now.sought in
    let sc = scope_of c.args.scope.now in
    let n = c.args.node.now in
    in_first (key (codes "in")) c.in_ok-found.found (in_inputs_of_node (breaks r) sc n) (joined (key (codes "set")) (in_settings (breaks r) sc (settings_in n)) None) (in_node (breaks r) sc c.args.number n) c.at_key.result
    (sym c.is_some.ensures ∙ c.if-is_some.true) c.in_ok-found.ensures (node_way r sc c.args.number n c.in_ok-node_breaks.field-0 c.in_ok-node_breaks.ensures c.if-branch.false) c.at_key.ensures

pub in_node-returns : goal.in_node-returns
in_node-returns t c =
    let r = c.args.scope.now.sought in
    let sc = scope_of c.args.scope.now in
    let n = c.args.node.now in
    let same : option_map pointer_of c.in_ok-found-2.found ≡ in_settings (breaks r) sc (settings_in n) = c.in_ok-found-2.ensures ∙ ap (in_settings (breaks r) sc) c.settings.ensures in
    in_rest (key (codes "in")) c.in_ok-found.found (in_inputs_of_node (breaks r) sc n) (joined (key (codes "set")) (in_settings (breaks r) sc (settings_in n)) None) (in_node (breaks r) sc c.args.number n) c.at_key-2.result
    (sym c.is_some.ensures ∙ c.if-is_some.false) c.in_ok-found.ensures (node_way r sc c.args.number n c.in_ok-node_breaks.field-0 c.in_ok-node_breaks.ensures c.if-branch.false)
    (in_last (key (codes "set")) c.in_ok-found-2.found (in_settings (breaks r) sc (settings_in n)) c.at_key-2.result same c.at_key-2.ensures)

pub in_node-in_settings-requires : goal.in_node-in_settings-requires
in_node-in_settings-requires t c =
    let same : settings_size (settings_of c.settings.result.now) ≡ settings_size (settings_in c.args.node.now) = ap settings_size c.settings.ensures in
    (omega (arith, c.decreases, size_of_node c.args.node.now), tt)

pub in_settings-in_zone-requires : goal.in_settings-in_zone-requires
in_settings-in_zone-requires t c =
    let x = c.setting-item.result in
    let inside : settings_size (setting_then x no_settings) ≤ settings_size (settings_of c.args.settings.now) = setting_within c.args.settings.now c.loop-setting.setting-index x x c.loop-setting-test.true c.setting-item.is in
    let smaller : nodes_size (nodes_of c.in-Some-zone_set.zone.now.nodes.items) < settings_size (setting_then x no_settings) = zone_smaller x c.in-Some-zone_set.zone.now (sym c.in-Some-zone_set.ensures) in
    (omega (arith, c.decreases), tt)

pub in_settings-returns-in-Some-zone_set : goal.in_settings-returns-in-Some-zone_set
in_settings-returns-in-Some-zone_set t c =
    let r = c.args.scope.now.sought in
    let sc = scope_of c.args.scope.now in
    let x = c.setting-item.result in
    let z = c.in-Some-zone_set.zone.now in
    let next = zone_next r sc c.args.settings.now c.loop-setting.setting-index x z c.loop-setting-test.true c.setting-item.is (sym c.in-Some-zone_set.ensures) in
    is_same c.in_zone.result (in_zone (breaks r) sc z) (in_settings (breaks r) sc (settings_of c.args.settings.now)) (sym next ∙ c.loop-setting.invariant) c.in_zone.ensures

pub in_zone-returns-then-is_some : goal.in_zone-returns-then-is_some
in_zone-returns-then-is_some t c =
    let r = c.args.scope.now.sought in
    let sc = scope_of c.args.scope.now in
    let z = c.args.zone.now in
    let sockets = map socket_of c.in_ok-items.items.list.now in
    let inner = zone_scope sc sockets (nodes_of z.nodes.items) in
    let rest = joined (key (codes "nodes")) (first_node (breaks r) inner 0 (nodes_of z.nodes.items)) (joined (key (codes "output")) (in_given_out (breaks r) inner sockets (map named_of z.output.items)) None) in
    let same = ap (map socket_of) (c.in_ok-items.ensures ∙ c.deref.ensures.value) in
    in_first (key (codes "items")) c.in_ok-found.found (in_sockets (breaks r) sockets) rest (in_zone (breaks r) sc z) c.at_key.result
    (sym c.is_some.ensures ∙ c.if-is_some.true) c.in_ok-found.ensures (zone_way r sc z sockets inner (nodes_of z.nodes.items) same (λ _. inner) (λ _. nodes_of z.nodes.items)) c.at_key.ensures

pub in_zone-returns-then-is_some-2 : goal.in_zone-returns-then-is_some-2
in_zone-returns-then-is_some-2 t c =
    let r = c.args.scope.now.sought in
    let sc = scope_of c.args.scope.now in
    let z = c.args.zone.now in
    let sockets = map socket_of c.in_ok-items.items.list.now in
    let inner = scope_of c.in_ok-inner.inner in
    let nodes = nodes_of c.in_ok-inner.inner.nodes.now.items in
    let last = joined (key (codes "output")) (in_given_out (breaks r) inner sockets (map named_of z.output.items)) None in
    let rest = joined (key (codes "nodes")) (first_node (breaks r) inner 0 nodes) last in
    let same = ap (map socket_of) (c.in_ok-items.ensures ∙ c.deref.ensures.value) in
    let way = zone_way r sc z sockets inner nodes same c.in_ok-inner.ensures.seen (ap (λ s. s.nodes) c.in_ok-inner.ensures.seen) in
    let found : option_map pointer_of c.in_ok-found-2.found ≡ first_node (breaks r) inner 0 nodes = c.in_ok-found-2.ensures ∙ nodes_way r c.in_ok-inner.inner.sought inner inner nodes nodes c.in_ok-inner.ensures.looked_for (λ _. inner) (λ _. nodes) in
    in_rest (key (codes "items")) c.in_ok-found.found (in_sockets (breaks r) sockets) rest (in_zone (breaks r) sc z) c.at_key-then-is_some-2.result
    (sym c.is_some.ensures ∙ c.if-is_some.false) c.in_ok-found.ensures way
    (in_first (key (codes "nodes")) c.in_ok-found-2.found (first_node (breaks r) inner 0 nodes) last rest c.at_key-then-is_some-2.result (sym c.is_some-2.ensures ∙ c.if-is_some-2.true) found (λ _. rest) c.at_key-then-is_some-2.ensures)

pub in_zone-returns : goal.in_zone-returns
in_zone-returns t c =
    let r = c.args.scope.now.sought in
    let sc = scope_of c.args.scope.now in
    let z = c.args.zone.now in
    let sockets = map socket_of c.in_ok-items.items.list.now in
    let inner = scope_of c.in_ok-inner.inner in
    let nodes = nodes_of c.in_ok-inner.inner.nodes.now.items in
    let output = in_given_out (breaks r) inner sockets (map named_of z.output.items) in
    let last = joined (key (codes "output")) output None in
    let rest = joined (key (codes "nodes")) (first_node (breaks r) inner 0 nodes) last in
    let same = ap (map socket_of) (c.in_ok-items.ensures ∙ c.deref.ensures.value) in
    let way = zone_way r sc z sockets inner nodes same c.in_ok-inner.ensures.seen (ap (λ s. s.nodes) c.in_ok-inner.ensures.seen) in
    let found : option_map pointer_of c.in_ok-found-2.found ≡ first_node (breaks r) inner 0 nodes = c.in_ok-found-2.ensures ∙ nodes_way r c.in_ok-inner.inner.sought inner inner nodes nodes c.in_ok-inner.ensures.looked_for (λ _. inner) (λ _. nodes) in
    let given : option_map pointer_of c.in_ok-found-3.found ≡ output =
    c.in_ok-found-3.ensures ∙ (ap (λ q. in_given_out (breaks q) inner sockets (map named_of c.deref-2.result.now)) c.in_ok-inner.ensures.looked_for ∙ ap (λ xs. in_given_out (breaks r) inner sockets (map named_of xs)) c.deref-2.ensures.value) in
    in_rest (key (codes "items")) c.in_ok-found.found (in_sockets (breaks r) sockets) rest (in_zone (breaks r) sc z) c.at_key-2.result
    (sym c.is_some.ensures ∙ c.if-is_some.false) c.in_ok-found.ensures way
    (in_rest (key (codes "nodes")) c.in_ok-found-2.found (first_node (breaks r) inner 0 nodes) last rest c.at_key-2.result (sym c.is_some-2.ensures ∙ c.if-is_some-2.false) found (λ _. rest)
    (in_last (key (codes "output")) c.in_ok-found-3.found output c.at_key-2.result given c.at_key-2.ensures))
