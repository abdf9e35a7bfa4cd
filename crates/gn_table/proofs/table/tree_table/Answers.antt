use Rattle.std.proofs.Common.{◌≡◌, ℕ, List, length, map, sym, ap, ◌∙◌, subst}
use Rattle.std.proofs.lemmas.List.{length-map}
use Rattle.gn_tree.specs.Trees.{Group}
use Rattle.gn_tree.specs.Seen.{group_of, nodes_of, tree_of}
use Rattle.gn_tree.specs.declared.tree.Group.{Group as CodeGroup}
use Rattle.gn_rules.specs.Scopes.{Scope, tree_entries, tree_scope}
use Rattle.gn_rules.specs.Rules.{graph_of}
use Rattle.gn_scopes.specs.Seen.{scope_of}
use Rattle.gn_meaning.specs.Bodies.{tree_body}
use Rattle.gn_order.specs.Acyclic.{IsAcyclic}
use Rattle.gn_table.proofs.Made.{same_nodes, table_made}
use Rattle.gn_table.proofs.Ordered.{tree_ordered}
use Rattle.gn_table.proofs.table.tree_table.Goals as goal

pub table_of-requires-clause-order : goal.table_of-requires-clause-order
table_of-requires-clause-order c =
    let seen = same_nodes (scope_of c.in_ok-scope.scope) _ c.in_ok-scope.ensures.seen in
    subst (λ ns. IsAcyclic (graph_of ns)) (sym seen) (tree_ordered (tree_of c.args.tree.now) c.requires.rules.0)

pub returns : goal.returns
returns c =
    let t = tree_of c.args.tree.now in
    let s : Scope = scope_of c.in_ok-scope.scope in
    let with_groups : List CodeGroup → Scope = λ xs. record { nodes = t.nodes; entries = tree_entries; groups = map group_of xs; above = length xs } in
    let below : ℕ → Scope = λ n. record { nodes = t.nodes; entries = tree_entries; groups = t.groups; above = n } in
    let same : s ≡ tree_scope t = c.in_ok-scope.ensures.seen ∙ (ap with_groups c.requires.groups ∙ ap below (sym (length-map c.args.tree.now.groups.items group_of))) in
    table_made (tree_body t) s c.in_ok-given.given.items same c.in_ok-given.ensures c.table_of.result c.table_of.ensures
