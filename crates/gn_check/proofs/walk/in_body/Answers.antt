use Rattle.std.proofs.Common.{◌≡◌, None, Some, map, length, codes, option_map, sym, ap, ◌∙◌, refl}
use Rattle.std.proofs.lemmas.List.{length-map}
use Rattle.gn_kinds.specs.declared.row.SocketKind.TheVariants.{Geometry}
use Rattle.gn_pointers.specs.Pointers.{key, joined}
use Rattle.gn_pointers.specs.Seen.{pointer_of}
use Rattle.gn_tree.specs.Seen.{group_of, input_of, nodes_of, tree_of}
use Rattle.gn_rules.specs.Sockets.{single}
use Rattle.gn_rules.specs.Scopes.{tree_scope}
use Rattle.gn_rules.specs.Walk.{breaks, first_node, in_input, in_output}
use Rattle.gn_scopes.specs.Seen.{scope_of}
use Rattle.gn_check.specs.Zones.{in_body}
use Rattle.gn_check.proofs.Walking.{is_same, in_first, in_rest, in_last, rest_alone, nodes_way, output_way, tree_scope_way}
use Rattle.gn_check.proofs.walk.in_body.Goals as goal

pub returns-then-is_some : goal.returns-then-is_some
returns-then-is_some c =
    let r = c.args.sought in
    let t = tree_of c.args.tree.now in
    let gs = map group_of c.args.groups.now.list.now in
    let size : length c.args.groups.now.list.now ≡ length gs = simp length-map in
    let seen : scope_of c.in_ok-scope.scope ≡ tree_scope t = tree_scope_way t gs (length c.args.groups.now.list.now) (scope_of c.in_ok-scope.scope) (ap (map group_of) c.requires) size c.in_ok-scope.ensures.seen in
    let first = first_node (breaks r) (tree_scope t) 0 t.nodes in
    let found : option_map pointer_of c.in_ok-found.found ≡ first =
    c.in_ok-found.ensures ∙ nodes_way r c.in_ok-scope.scope.sought (scope_of c.in_ok-scope.scope) (tree_scope t) (nodes_of c.in_ok-scope.scope.nodes.now.items) t.nodes c.in_ok-scope.ensures.looked_for seen (ap (λ s. s.nodes) seen) in
    in_first (key (codes "nodes")) c.in_ok-found.found first (in_output (breaks r) (tree_scope t) t.output) (in_body (breaks r) t) c.at_key.result (sym c.is_some.ensures ∙ c.if-is_some.true) found refl c.at_key.ensures

pub returns-in-Some : goal.returns-in-Some
returns-in-Some c =
    let r = c.args.sought in
    let t = tree_of c.args.tree.now in
    let gs = map group_of c.args.groups.now.list.now in
    let size : length c.args.groups.now.list.now ≡ length gs = simp length-map in
    let seen : scope_of c.in_ok-scope.scope ≡ tree_scope t = tree_scope_way t gs (length c.args.groups.now.list.now) (scope_of c.in_ok-scope.scope) (ap (map group_of) c.requires) size c.in_ok-scope.ensures.seen in
    let first = first_node (breaks r) (tree_scope t) 0 t.nodes in
    let found : option_map pointer_of c.in_ok-found.found ≡ first =
    c.in_ok-found.ensures ∙ nodes_way r c.in_ok-scope.scope.sought (scope_of c.in_ok-scope.scope) (tree_scope t) (nodes_of c.in_ok-scope.scope.nodes.now.items) t.nodes c.in_ok-scope.ensures.looked_for seen (ap (λ s. s.nodes) seen) in
    let x = input_of c.in-Some.input in
    let last = in_input (breaks r) (tree_scope t) (Some (single Geometry)) x in
    let given : option_map pointer_of c.in_ok-found-in-Some.found ≡ last =
    c.in_ok-found-in-Some.ensures ∙ output_way r c.in_ok-scope.scope.sought (scope_of c.in_ok-scope.scope) (tree_scope t) (Some c.single.result) (Some (single Geometry)) x c.in_ok-scope.ensures.looked_for seen (ap Some c.single.ensures) in
    let written : t.output ≡ Some x = ap (option_map input_of) c.in-Some.is in
    in_rest (key (codes "nodes")) c.in_ok-found.found first (in_output (breaks r) (tree_scope t) t.output) (in_body (breaks r) t) c.at_key-in-Some.result (sym c.is_some.ensures ∙ c.if-is_some.false) found refl
    (is_same c.at_key-in-Some.result (joined (key (codes "output")) last None) (in_output (breaks r) (tree_scope t) t.output) (ap (in_output (breaks r) (tree_scope t)) (sym written))
    (in_last (key (codes "output")) c.in_ok-found-in-Some.found last c.at_key-in-Some.result given c.at_key-in-Some.ensures))

pub returns : goal.returns
returns c =
    let r = c.args.sought in
    let t = tree_of c.args.tree.now in
    let gs = map group_of c.args.groups.now.list.now in
    let size : length c.args.groups.now.list.now ≡ length gs = simp length-map in
    let seen : scope_of c.in_ok-scope.scope ≡ tree_scope t = tree_scope_way t gs (length c.args.groups.now.list.now) (scope_of c.in_ok-scope.scope) (ap (map group_of) c.requires) size c.in_ok-scope.ensures.seen in
    let first = first_node (breaks r) (tree_scope t) 0 t.nodes in
    let found : option_map pointer_of c.in_ok-found.found ≡ first =
    c.in_ok-found.ensures ∙ nodes_way r c.in_ok-scope.scope.sought (scope_of c.in_ok-scope.scope) (tree_scope t) (nodes_of c.in_ok-scope.scope.nodes.now.items) t.nodes c.in_ok-scope.ensures.looked_for seen (ap (λ s. s.nodes) seen) in
    let written : t.output ≡ None = ap (option_map input_of) c.in-None.is in
    sym (rest_alone (key (codes "nodes")) c.in_ok-found.found first (in_output (breaks r) (tree_scope t) t.output) (sym c.is_some.ensures ∙ c.if-is_some.false) found ∙ ap (in_output (breaks r) (tree_scope t)) written)
