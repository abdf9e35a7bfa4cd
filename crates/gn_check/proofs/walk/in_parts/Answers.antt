use Rattle.std.proofs.Common.{◌≡◌, map, codes, option_map, sym, ap, ◌∙◌}
use Rattle.gn_pointers.specs.Pointers.{key, joined}
use Rattle.gn_pointers.specs.Seen.{pointer_of}
use Rattle.gn_tree.specs.Seen.{socket_of, group_of, nodes_of}
use Rattle.gn_rules.specs.Scopes.{group_scope}
use Rattle.gn_rules.specs.Walk.{breaks, in_sockets, first_node}
use Rattle.gn_scopes.specs.Seen.{scope_of}
use Rattle.gn_check.specs.Zones.{in_results}
use Rattle.gn_check.proofs.Walking.{is_same, in_first, in_rest, nodes_way, scope_way}
use Rattle.gn_check.proofs.walk.in_parts.Goals as goal

pub returns-then-is_some : goal.returns-then-is_some
returns-then-is_some c =
    let r = c.args.sought in
    let gs = map group_of c.args.groups.now.list.now in
    let g = group_of c.args.group.now in
    let inner = group_scope gs c.args.number g in
    let first = in_sockets (breaks r) g.inputs in
    let rest = joined (key (codes "nodes")) (first_node (breaks r) inner 0 g.nodes) (in_results (breaks r) inner g) in
    let same : map socket_of c.in_ok-inputs.inputs.list.now ≡ g.inputs = ap (map socket_of) (c.in_ok-inputs.ensures ∙ c.deref.ensures.value) in
    let found : option_map pointer_of c.in_ok-found.found ≡ first = c.in_ok-found.ensures ∙ ap (in_sockets (breaks r)) same in
    in_first (key (codes "inputs")) c.in_ok-found.found first rest (joined (key (codes "inputs")) first rest) c.at_key.result (sym c.is_some.ensures ∙ c.if-is_some.true) found (λ _. joined (key (codes "inputs")) first rest) c.at_key.ensures

pub returns-then-is_some-2 : goal.returns-then-is_some-2
returns-then-is_some-2 c =
    let r = c.args.sought in
    let gs = map group_of c.args.groups.now.list.now in
    let g = group_of c.args.group.now in
    let inner = group_scope gs c.args.number g in
    let first = in_sockets (breaks r) g.inputs in
    let body = first_node (breaks r) inner 0 g.nodes in
    let last = in_results (breaks r) inner g in
    let rest = joined (key (codes "nodes")) body last in
    let same : map socket_of c.in_ok-inputs.inputs.list.now ≡ g.inputs = ap (map socket_of) (c.in_ok-inputs.ensures ∙ c.deref.ensures.value) in
    let found : option_map pointer_of c.in_ok-found.found ≡ first = c.in_ok-found.ensures ∙ ap (in_sockets (breaks r)) same in
    let seen : scope_of c.in_ok-scope.scope ≡ inner = scope_way gs c.args.number g (map socket_of c.in_ok-inputs.inputs.list.now) (scope_of c.in_ok-scope.scope) same c.in_ok-scope.ensures.seen in
    let later : option_map pointer_of c.in_ok-found-2.found ≡ body =
    c.in_ok-found-2.ensures ∙ nodes_way r c.in_ok-scope.scope.sought (scope_of c.in_ok-scope.scope) inner (nodes_of c.in_ok-scope.scope.nodes.now.items) g.nodes c.in_ok-scope.ensures.looked_for seen (ap (λ s. s.nodes) seen) in
    in_rest (key (codes "inputs")) c.in_ok-found.found first rest (joined (key (codes "inputs")) first rest) c.at_key-then-is_some-2.result (sym c.is_some.ensures ∙ c.if-is_some.false) found (λ _. joined (key (codes "inputs")) first rest)
    (in_first (key (codes "nodes")) c.in_ok-found-2.found body last rest c.at_key-then-is_some-2.result (sym c.is_some-2.ensures ∙ c.if-is_some-2.true) later (λ _. rest) c.at_key-then-is_some-2.ensures)

pub returns : goal.returns
returns c =
    let r = c.args.sought in
    let gs = map group_of c.args.groups.now.list.now in
    let g = group_of c.args.group.now in
    let inner = group_scope gs c.args.number g in
    let first = in_sockets (breaks r) g.inputs in
    let body = first_node (breaks r) inner 0 g.nodes in
    let last = in_results (breaks r) inner g in
    let rest = joined (key (codes "nodes")) body last in
    let same : map socket_of c.in_ok-inputs.inputs.list.now ≡ g.inputs = ap (map socket_of) (c.in_ok-inputs.ensures ∙ c.deref.ensures.value) in
    let found : option_map pointer_of c.in_ok-found.found ≡ first = c.in_ok-found.ensures ∙ ap (in_sockets (breaks r)) same in
    let seen : scope_of c.in_ok-scope.scope ≡ inner = scope_way gs c.args.number g (map socket_of c.in_ok-inputs.inputs.list.now) (scope_of c.in_ok-scope.scope) same c.in_ok-scope.ensures.seen in
    let later : option_map pointer_of c.in_ok-found-2.found ≡ body =
    c.in_ok-found-2.ensures ∙ nodes_way r c.in_ok-scope.scope.sought (scope_of c.in_ok-scope.scope) inner (nodes_of c.in_ok-scope.scope.nodes.now.items) g.nodes c.in_ok-scope.ensures.looked_for seen (ap (λ s. s.nodes) seen) in
    let answer = is_same c.in_results.result (in_results (breaks c.in_ok-scope.scope.sought) (scope_of c.in_ok-scope.scope) g) last (ap (λ q. in_results (breaks q) (scope_of c.in_ok-scope.scope) g) c.in_ok-scope.ensures.looked_for ∙ ap (λ s. in_results (breaks r) s g) seen) c.in_results.ensures in
    in_rest (key (codes "inputs")) c.in_ok-found.found first rest (joined (key (codes "inputs")) first rest) c.in_results.result (sym c.is_some.ensures ∙ c.if-is_some.false) found (λ _. joined (key (codes "inputs")) first rest)
    (in_rest (key (codes "nodes")) c.in_ok-found-2.found body last rest c.in_results.result (sym c.is_some-2.ensures ∙ c.if-is_some-2.false) later (λ _. rest) answer)
