use Rattle.std.proofs.Common.{◌≡◌, map, codes, option_map, sym, ap, ◌∙◌, refl}
use Rattle.gn_pointers.specs.Pointers.{key}
use Rattle.gn_pointers.specs.Seen.{pointer_of}
use Rattle.gn_tree.specs.Seen.{group_of, tree_of}
use Rattle.gn_rules.specs.Walk.{breaks, first_group, first_pointer}
use Rattle.gn_check.specs.Zones.{in_body}
use Rattle.gn_check.proofs.Walking.{is_same, in_first, in_rest, groups_way, own_nodes, own_nodes_break, own_nodes_keep}
use Rattle.gn_check.proofs.walk.in_tree.Goals as goal

pub returns-then-is_some : goal.returns-then-is_some
returns-then-is_some c =
    let r = c.args.sought in
    let t = tree_of c.args.tree.now in
    let first = first_group (breaks r) t.groups 0 t.groups in
    let found : option_map pointer_of c.in_ok-found.found ≡ first = c.in_ok-found.ensures ∙ groups_way r (map group_of c.args.groups.now.list.now) t.groups (ap (map group_of) c.requires) in
    in_first (key (codes "groups")) c.in_ok-found.found first (own_nodes r t) (first_pointer t r) c.at_key.result (sym c.is_some.ensures ∙ c.if-is_some.true) found refl c.at_key.ensures

pub returns-then-tree_breaks : goal.returns-then-tree_breaks
returns-then-tree_breaks c =
    let r = c.args.sought in
    let t = tree_of c.args.tree.now in
    let first = first_group (breaks r) t.groups 0 t.groups in
    let found : option_map pointer_of c.in_ok-found.found ≡ first = c.in_ok-found.ensures ∙ groups_way r (map group_of c.args.groups.now.list.now) t.groups (ap (map group_of) c.requires) in
    in_rest (key (codes "groups")) c.in_ok-found.found first (own_nodes r t) (first_pointer t r) c.at_key-then-tree_breaks.result (sym c.is_some.ensures ∙ c.if-is_some.false) found refl
    (is_same c.at_key-then-tree_breaks.result _ (own_nodes r t) (own_nodes_break r t c.here.result (sym c.tree_breaks.ensures ∙ c.if-tree_breaks.true) c.here.ensures) c.at_key-then-tree_breaks.ensures)

pub returns : goal.returns
returns c =
    let r = c.args.sought in
    let t = tree_of c.args.tree.now in
    let first = first_group (breaks r) t.groups 0 t.groups in
    let found : option_map pointer_of c.in_ok-found.found ≡ first = c.in_ok-found.ensures ∙ groups_way r (map group_of c.args.groups.now.list.now) t.groups (ap (map group_of) c.requires) in
    in_rest (key (codes "groups")) c.in_ok-found.found first (own_nodes r t) (first_pointer t r) c.in_body.result (sym c.is_some.ensures ∙ c.if-is_some.false) found refl
    (is_same c.in_body.result (in_body (breaks r) t) (own_nodes r t) (own_nodes_keep r t (sym c.tree_breaks.ensures ∙ c.if-tree_breaks.false)) c.in_body.ensures)
