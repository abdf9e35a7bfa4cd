-- The runs that are found for a list are those that it unfolds to.
use Rattle.std.proofs.Common.{◌≡◌, inl, inr, ℕ, zero, suc, List, [], ◌∷◌, ◌++◌, map, Option, Some, None, refl, ap, subst}
use Rattle.std.specs.Prelude.{option_map, option_and_then}
use Rattle.std.specs.Option.{option_map_or}
use Rattle.std.specs.List.{flat_map}
use Rattle.gn_tree.specs.Trees.{Node as TreeNode, Tree}
use Rattle.gn_node_set.specs.Lists.{all_of}
use Rattle.gn_node_set.specs.Meanings.{Has}
use Rattle.gn_rules.specs.Sockets.{ids, node_at}
use Rattle.gn_rules.specs.Rules.{KeepsRules, graph_of}
use Rattle.gn_meaning.specs.Sites.{Way, into, plain_step}
use Rattle.gn_meaning.specs.Bodies.{Body, body_at}
use Rattle.gn_meaning.specs.Forms.{HasForm}
use Rattle.gn_meaning.specs.There.{LeadsTo, into_group}
use Rattle.gn_meaning.specs.Reads.{Run, Part, a_node, a_group, a_repeat, run_in, part_at, part_in}
use Rattle.gn_meaning.proofs.Options.{some_same, then_some, map_some, none_some}
use Rattle.gn_meaning.proofs.Parts.{Holds}
use Rattle.gn_meaning.proofs.Opened.{at_way, part_of}
use Rattle.gn_stands.specs.Order.{by_rank, OrdersBack}
use Rattle.gn_stands.specs.Tasks.{order_at, part_runs, runs_within}
use Rattle.gn_lower.proofs.Coming.{node_below, order_back}
use Rattle.gn_lower.specs.Unfolding.{Unfold, nothing, by_run, by_group}

module _ (t : Tree) (keeps : KeepsRules t) (form : HasForm t) where
  abbrev known_in : ℕ → Way → ℕ → Option (List Run)
  known_in k way n = part_runs (body_at t) (runs_within (body_at t) k) way n (part_at t way n)

  abbrev Unfolded : Way → List ℕ → List Run → Type 0
  Unfolded way ns runs = Unfold t way ns runs

  -- each of these numbers is that of a node
  abbrev AreParts : Way → List ℕ → Type 0
  AreParts way ns = (n : ℕ) → Has ns n → (p : Part) × (part_at t way n ≡ Some p)

  ordered_parts : (way : Way) (b : Body) → LeadsTo t way b → AreParts way (by_rank (graph_of b.scope.nodes))
  ordered_parts way b leads n h =
      let list : (body_at t way ≡ Some b) × Holds t b = at_way t keeps form leads in
      let order : OrdersBack (graph_of b.scope.nodes) (by_rank (graph_of b.scope.nodes)) = order_back t keeps form way b leads in
      let x : (x : TreeNode) × (node_at b.scope.nodes n ≡ Some x) = node_below (ids b.scope.nodes) b.scope.nodes n ((order.members n).0 h) in
      (part_in b.scope way n x.0, part_of t keeps form way b list.0 n x.0 x.1)

  pub order_of : (way : Way) (b : Body) → LeadsTo t way b → order_at (body_at t) way ≡ by_rank (graph_of b.scope.nodes)
  order_of way b leads = ap (λ o. option_map_or (λ c. by_rank (graph_of c.scope.nodes)) o []) (at_way t keeps form leads).0

  module _ (k : ℕ) (way : Way) (b : Body) (leads : LeadsTo t way b)
      (below : (n : ℕ) (inner : Body) → LeadsTo t (into way (plain_step n)) inner → (runs : List Run) → runs_within (body_at t) k (into way (plain_step n)) ≡ Some runs → Unfolded (into way (plain_step n)) (by_rank (graph_of inner.scope.nodes)) runs) where
    one_run : (n : ℕ) (ns : List ℕ) (run : Run) (first rest : List Run) → option_and_then run_in (part_at t way n) ≡ Some run → run ∷ [] ≡ first → Unfolded way ns rest → Unfolded way (n ∷ ns) (first ++ rest)
    one_run n ns run first rest at same u = subst (λ rs. Unfolded way (n ∷ ns) (rs ++ rest)) same (by_run run at u)

    one : (n : ℕ) (ns : List ℕ) (o : Option Part) (first rest : List Run) → part_at t way n ≡ o → (p : Part) × (part_at t way n ≡ Some p) → part_runs (body_at t) (runs_within (body_at t) k) way n o ≡ Some first → Unfolded way ns rest → Unfolded way (n ∷ ns) (first ++ rest)
    one n ns None first rest at there e u = absurd (none_some at there.1)
    one n ns (Some (a_node run)) first rest at there e u = one_run n ns run first rest (ap (option_and_then run_in) at) (some_same e) u
    one n ns (Some (a_repeat run inner)) first rest at there e u = one_run n ns run first rest (ap (option_and_then run_in) at) (some_same e) u
    one n ns (Some (a_group inner reads)) first rest at there e u = by_group inner reads at (below n inner (into_group n reads leads at) first e) u

    many : (ns : List ℕ) (lists : List (List Run)) → AreParts way ns → all_of (map (known_in k way) ns) ≡ Some lists → Unfolded way ns (flat_map (λ rs. rs) lists)
    many [] lists there e = subst (λ ls. Unfolded way [] (flat_map (λ rs. rs) ls)) (some_same e) nothing
    many (n ∷ ns) lists there e =
        let first : (x : List Run) × (known_in k way n ≡ Some x) × (option_map (λ vs. x ∷ vs) (all_of (map (known_in k way) ns)) ≡ Some lists) =
        then_some (λ v. option_map (λ vs. v ∷ vs) (all_of (map (known_in k way) ns))) (known_in k way n) lists e in
        let rest : (vs : List (List Run)) × (all_of (map (known_in k way) ns) ≡ Some vs) × (first.0 ∷ vs ≡ lists) = map_some (λ vs. first.0 ∷ vs) (all_of (map (known_in k way) ns)) lists first.2 in
        subst (λ ls. Unfolded way (n ∷ ns) (flat_map (λ rs. rs) ls)) rest.2
        (one n ns (part_at t way n) first.0 (flat_map (λ rs. rs) rest.0) refl (there n (inl refl)) first.1 (many ns rest.0 (λ m h. there m (inr h)) rest.1))

  pub unfolded : (k : ℕ) (way : Way) (b : Body) → LeadsTo t way b → (runs : List Run) → runs_within (body_at t) k way ≡ Some runs → Unfolded way (by_rank (graph_of b.scope.nodes)) runs
  unfolded zero way b leads runs e = cc
  unfolded (suc k) way b leads runs e =
      let lists : (lists : List (List Run)) × (all_of (map (known_in k way) (order_at (body_at t) way)) ≡ Some lists) × (flat_map (λ rs. rs) lists ≡ runs) =
      map_some (flat_map (λ rs. rs)) (all_of (map (known_in k way) (order_at (body_at t) way))) runs e in
      subst (Unfolded way (by_rank (graph_of b.scope.nodes))) lists.2
      (many k way b leads (λ n inner leads_in rs f. unfolded k (into way (plain_step n)) inner leads_in rs f) (by_rank (graph_of b.scope.nodes)) lists.0 (ordered_parts way b leads)
      (subst (λ ns. all_of (map (known_in k way) ns) ≡ Some lists.0) (order_of way b leads) lists.1))
