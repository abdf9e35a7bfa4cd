-- The lists of a tree that keeps the rules can be put in order.
use Rattle.std.proofs.Common.{◌≡◌, ◌<◌, ◌+◌, ℕ, zero, suc, List, [], ◌∷◌, length, Some, codes, refl, sym, ap, subst, arith}
use Rattle.std.specs.Prelude.{slice_get}
use Rattle.gn_pointers.specs.Pointers.{index, key}
use Rattle.gn_tree.specs.Trees.{Node, Nodes, Group, Tree}
use Rattle.gn_cycle.specs.Graph.{Leads}
use Rattle.gn_rules.specs.declared.rule.Rule.TheVariants as rule
use Rattle.gn_rules.specs.Sockets.{node_at}
use Rattle.gn_rules.specs.Scopes.{Scope, tree_scope, group_scope}
use Rattle.gn_rules.specs.Things as things
use Rattle.gn_rules.specs.Things.{the_groups, the_nodes, all_nodes}
use Rattle.gn_rules.specs.Rules.{KeepsRules, graph_of}
use Rattle.gn_meaning.specs.Forms.{GroupsHaveForm, HasForm, NodesHaveForm}
use Rattle.gn_meaning.proofs.Options.{some_same}
use Rattle.gn_meaning.proofs.Order.{node_leading}
use Rattle.gn_meaning.proofs.Reached.{Reached, at_top, part, keeps_rule, node_part, group_part}
use Rattle.gn_found.proofs.Edges.{edges_there}
use Rattle.gn_order.specs.Acyclic.{IsAcyclic}
use Rattle.gn_table.specs.Tables.{AreOrdered}

module _ (t : Tree) (keeps : KeepsRules t) where
  from_zero : (n : ℕ) → 0 + n ≡ n
  from_zero n = omega arith

  ordered : (s : Scope) → ((n : ℕ) (x : Node) → node_at s.nodes n ≡ Some x → Reached t (things.a_node s n x)) → IsAcyclic (graph_of s.nodes)
  ordered s reached = record {
    no_cycle = λ n l. let x : (x : Node) × (node_at s.nodes n ≡ Some x) = node_leading s.nodes n n l in keeps_rule t rule.Order keeps (reached n x.0 x.1) l;
    there = edges_there s.nodes;
  }

  pub tree_ordered : IsAcyclic (graph_of t.nodes)
  tree_ordered = ordered (tree_scope t) (λ n x e. subst (λ i. Reached t (things.a_node (tree_scope t) i x)) (from_zero n)
      (part (index (0 + n)) (things.a_node (tree_scope t) (0 + n) x) (part (key (codes "nodes")) (all_nodes t) at_top refl) (node_part (tree_scope t) 0 n t.nodes x e)))

  group_nodes : (i : ℕ) (g : Group) → slice_get t.groups i ≡ Some g → Reached t (the_nodes (group_scope t.groups i g))
  group_nodes i g e = part (key (codes "nodes")) (the_nodes (group_scope t.groups i g))
      (subst (λ n. Reached t (things.a_group t.groups n g)) (from_zero i) (part (index (0 + i)) (things.a_group t.groups (0 + i) g) (part (key (codes "groups")) (the_groups t.groups) at_top refl) (group_part t.groups 0 i t.groups g e)))
      refl

  group_ordered : (i : ℕ) (g : Group) → slice_get t.groups i ≡ Some g → IsAcyclic (graph_of g.nodes)
  group_ordered i g e = ordered (group_scope t.groups i g) (λ n x f. subst (λ m. Reached t (things.a_node (group_scope t.groups i g) m x)) (from_zero n)
      (part (index (0 + n)) (things.a_node (group_scope t.groups i g) (0 + n) x) (group_nodes i g e) (node_part (group_scope t.groups i g) 0 n g.nodes x f)))

  group_form : (gs : List Group) (i : ℕ) (g : Group) → GroupsHaveForm gs → slice_get gs i ≡ Some g → NodesHaveForm g.nodes
  group_form [] i g form e = cc
  group_form (h ∷ gs) zero g form e = subst (λ x. NodesHaveForm x.nodes) (some_same e) form.0
  group_form (h ∷ gs) (suc i) g form e = group_form gs i g form.1 e

  pub groups_ordered : HasForm t → AreOrdered t.groups
  groups_ordered form i g e = (group_form t.groups i g form.0 e, group_ordered i g e)
