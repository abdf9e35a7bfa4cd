-- The runs of a list and of the groups in it have different paths.
use Rattle.std.proofs.Common.{◌≡◌, ◌⊎◌, inl, inr, ℕ, zero, suc, List, [], ◌∷◌, ◌++◌, length, map, Option, Some, None, refl, sym, ◌∙◌, ap, subst}
use Rattle.std.specs.Prelude.{option_map, option_and_then}
use Rattle.std.specs.Option.{option_map_or}
use Rattle.std.specs.List.{flat_map}
use Rattle.gn_tree.specs.NodeKinds.{Kind}
use Rattle.gn_tree.specs.Trees.{Tree}
use Rattle.gn_rules.specs.Rules.{graph_of}
use Rattle.gn_node_set.specs.Lists.{all_of}
use Rattle.gn_node_set.specs.Paths.{Path}
use Rattle.gn_node_set.specs.Meanings.{Has, AllDiffer, Link, Node}
use Rattle.gn_node_set.proofs.Lists.{map_append, has_either, differ_joined}
use Rattle.gn_exec_laws.specs.Graphs.{Task}
use Rattle.gn_exec_laws.specs.Fits.{paths_of}
use Rattle.gn_meaning.specs.Sites.{Way, the_tree, into, plain_step, path_by, path_of}
use Rattle.gn_meaning.specs.Bodies.{Body, body_at}
use Rattle.gn_meaning.specs.Reads.{Run, Part, a_node, a_group, a_repeat, run_in, part_at}
use Rattle.gn_meaning.specs.Denotation.{Given}
use Rattle.gn_meaning.specs.Demand.{output_read}
use Rattle.gn_meaning.proofs.Options.{some_same, then_some, map_some}
use Rattle.gn_meaning.proofs.Paths.{path_of_run}
use Rattle.gn_stands.specs.Order.{by_rank}
use Rattle.gn_stands.specs.Tasks.{order_at, part_runs, runs_within, links_within, node_within, nodes_within, task_within}
use Rattle.gn_stands.proofs.Walks.{ranks_differ}
use Rattle.gn_found.proofs.Back.{paths_in}

-- ---- paths behind a way

-- the path is that of the node with that number in the list that the way leads to, or of one inside
abbrev IsUnder : Way → ℕ → Path → Type 0
IsUnder way n p = (rest : Path) × (path_by way (plain_step n ∷ rest) ≡ p)

same_rest : (way : Way) (p q : Path) → path_by way p ≡ path_by way q → p ≡ q
same_rest the_tree p q e = e
same_rest (into way step) p q e = let more : step ∷ p ≡ step ∷ q = same_rest way (step ∷ p) (step ∷ q) e in cc

first_number : Path → ℕ
first_number [] = 0
first_number (step ∷ p) = step.node

one_node : (way : Way) (n m : ℕ) (p : Path) → IsUnder way n p → IsUnder way m p → n ≡ m
unfolding first_number
one_node way n m p a b = ap first_number (same_rest way (plain_step n ∷ a.0) (plain_step m ∷ b.0) (a.1 ∙ sym b.1))

order_differs : (o : Option Body) → AllDiffer (option_map_or (λ b. by_rank (graph_of b.scope.nodes)) o [])
order_differs None = tt
order_differs (Some b) = ranks_differ (graph_of b.scope.nodes) 0 (suc (length (graph_of b.scope.nodes)))

module _ (t : Tree) where
  abbrev AreUnder : Way → ℕ → List Run → Type 0
  AreUnder way n runs = (p : Path) → Has (paths_in runs) p → IsUnder way n p

  record Differ (way : Way) (runs : List Run) : Type 0 where
    differ : AllDiffer (paths_in runs)
    under : (p : Path) → Has (paths_in runs) p → (n : ℕ) × IsUnder way n p

  own_under : (way : Way) (n : ℕ) (run : Run) → run.path ≡ path_of way n → AreUnder way n (run ∷ [])
  own_under way n run e p (inl same) = ([], sym e ∙ sym same)
  own_under way n run e p (inr h) = absurd h

  module _ (k : ℕ) (way : Way) (below : (n : ℕ) (runs : List Run) → runs_within (body_at t) k (into way (plain_step n)) ≡ Some runs → Differ (into way (plain_step n)) runs) where
    abbrev known : ℕ → Option (List Run)
    known n = part_runs (body_at t) (runs_within (body_at t) k) way n (part_at t way n)

    abbrev OneDiffers : ℕ → List Run → Type 0
    OneDiffers n runs = AllDiffer (paths_in runs) × AreUnder way n runs

    one_run : (n : ℕ) (p : Part) (run : Run) → part_at t way n ≡ Some p → run_in p ≡ Some run → OneDiffers n (run ∷ [])
    one_run n p run at is = (((λ h. h), tt), own_under way n run (path_of_run t way n 0 run (ap (option_and_then run_in) at ∙ is)))

    one_differs : (n : ℕ) (p : Option Part) → part_at t way n ≡ p → (runs : List Run) → part_runs (body_at t) (runs_within (body_at t) k) way n p ≡ Some runs → OneDiffers n runs
    one_differs n None at runs e = subst (OneDiffers n) (some_same e) (tt, λ p h. absurd h)
    one_differs n (Some (a_node run)) at runs e = subst (OneDiffers n) (some_same e) (one_run n (a_node run) run at refl)
    one_differs n (Some (a_group b reads)) at runs e =
        let inside : Differ (into way (plain_step n)) runs = below n runs e in
        (inside.differ, λ p h. let m : (m : ℕ) × IsUnder (into way (plain_step n)) m p = inside.under p h in (plain_step m.0 ∷ m.1.0, m.1.1))
    one_differs n (Some (a_repeat run b)) at runs e = subst (OneDiffers n) (some_same e) (one_run n (a_repeat run b) run at refl)

    abbrev all_paths : List (List Run) → List Path
    all_paths lists = paths_in (flat_map (λ runs. runs) lists)

    abbrev ManyDiffer : List ℕ → List (List Run) → Type 0
    ManyDiffer ns lists = AllDiffer (all_paths lists) × ((p : Path) → Has (all_paths lists) p → (n : ℕ) × Has ns n × IsUnder way n p)

    many_differ : (ns : List ℕ) (lists : List (List Run)) → AllDiffer ns → all_of (map known ns) ≡ Some lists → ManyDiffer ns lists
    many_differ [] lists d e = subst (ManyDiffer []) (some_same e) (tt, λ p h. absurd h)
    many_differ (n ∷ ns) lists d e =
        let first : (runs : List Run) × (known n ≡ Some runs) × (option_map (λ vs. runs ∷ vs) (all_of (map known ns)) ≡ Some lists) = then_some (λ v. option_map (λ vs. v ∷ vs) (all_of (map known ns))) (known n) lists e in
        let rest : (ls : List (List Run)) × (all_of (map known ns) ≡ Some ls) × (first.0 ∷ ls ≡ lists) = map_some (λ vs. first.0 ∷ vs) (all_of (map known ns)) lists first.2 in
        let own : OneDiffers n first.0 = one_differs n (part_at t way n) refl first.0 first.1 in
        let others : ManyDiffer ns rest.0 = many_differ ns rest.0 d.1 rest.1 in
        let apart : paths_in (first.0 ++ flat_map (λ runs. runs) rest.0) ≡ paths_in first.0 ++ all_paths rest.0 = map_append (λ run. run.path) first.0 (flat_map (λ runs. runs) rest.0) in
        subst (ManyDiffer (n ∷ ns)) rest.2
        (subst (λ ps. AllDiffer ps × ((p : Path) → Has ps p → (m : ℕ) × Has (n ∷ ns) m × IsUnder way m p)) (sym apart) (
          differ_joined (paths_in first.0) (all_paths rest.0) own.0 others.0 (λ p h g. let m : (m : ℕ) × Has ns m × IsUnder way m p = others.1 p g in d.0 (subst (Has ns) (sym (one_node way n m.0 p (own.1 p h) m.2)) m.1)),
          λ p h. by_side first.0 rest.0 own.1 others.1 p (has_either (paths_in first.0) (all_paths rest.0) p h),
        ))
      where
        by_side : (runs : List Run) (ls : List (List Run)) → AreUnder way n runs → ((p : Path) → Has (all_paths ls) p → (m : ℕ) × Has ns m × IsUnder way m p) → (p : Path) → Has (paths_in runs) p ⊎ Has (all_paths ls) p → (m : ℕ) × Has (n ∷ ns) m × IsUnder way m p
        by_side runs ls own others p (inl h) = (n, inl refl, own p h)
        by_side runs ls own others p (inr h) = let m : (m : ℕ) × Has ns m × IsUnder way m p = others p h in (m.0, inr m.1, m.2)

  list_differs : (k : ℕ) (way : Way) (runs : List Run) → runs_within (body_at t) k way ≡ Some runs → Differ way runs
  list_differs zero way runs e = cc
  list_differs (suc k) way runs e =
      let lists : (lists : List (List Run)) × (all_of (map (λ n. part_runs (body_at t) (runs_within (body_at t) k) way n (part_at t way n)) (order_at (body_at t) way)) ≡ Some lists) × (flat_map (λ rs. rs) lists ≡ runs) =
      map_some (flat_map (λ rs. rs)) (all_of (map (λ n. part_runs (body_at t) (runs_within (body_at t) k) way n (part_at t way n)) (order_at (body_at t) way))) runs e in
      let all = many_differ k way (λ n rs f. list_differs k (into way (plain_step n)) rs f) (order_at (body_at t) way) lists.0 (order_differs (body_at t way)) lists.1 in
      subst (Differ way) lists.2 (record { differ = all.0; under = λ p h. let n = all.1 p h in (n.0, n.2) })

  module _ {V : Type 0} (given : Given V) (k : ℕ) where
    same_paths : (runs : List Run) (nodes : List (Node Kind V)) → all_of (map (node_within given t k) runs) ≡ Some nodes → paths_in runs ≡ paths_of nodes
    same_paths [] nodes e = ap paths_of (some_same e)
    same_paths (run ∷ runs) nodes e =
        let first : (x : Node Kind V) × (node_within given t k run ≡ Some x) × (option_map (λ vs. x ∷ vs) (all_of (map (node_within given t k) runs)) ≡ Some nodes) =
        then_some (λ v. option_map (λ vs. v ∷ vs) (all_of (map (node_within given t k) runs))) (node_within given t k run) nodes e in
        let rest : (ns : List (Node Kind V)) × (all_of (map (node_within given t k) runs) ≡ Some ns) × (first.0 ∷ ns ≡ nodes) = map_some (λ vs. first.0 ∷ vs) (all_of (map (node_within given t k) runs)) nodes first.2 in
        let links : (links : List (Link V)) × (links_within given t k run.reads ≡ Some links) × (record { path = run.path; kind = run.kind; links = links } ≡ first.0) =
        map_some (λ links. record { path = run.path; kind = run.kind; links = links }) (links_within given t k run.reads) first.0 first.1 in
        ap (λ p. p ∷ paths_in runs) (ap (λ x. x.path) links.2) ∙ (ap (λ ps. first.0.path ∷ ps) (same_paths runs rest.0 rest.1) ∙ ap paths_of rest.2)

    pub found_differ : (task : Task Kind V) → task_within given t k ≡ Some task → AllDiffer (paths_of task.nodes)
    found_differ task e =
        let nodes : (nodes : List (Node Kind V)) × (nodes_within given t k the_tree ≡ Some nodes) × (option_map (λ roots. record { nodes = nodes; roots = roots }) (links_within given t k (output_read t ∷ [])) ≡ Some task) =
        then_some (λ ns. option_map (λ roots. record { nodes = ns; roots = roots }) (links_within given t k (output_read t ∷ []))) (nodes_within given t k the_tree) task e in
        let roots : (roots : List (Link V)) × (links_within given t k (output_read t ∷ []) ≡ Some roots) × (record { nodes = nodes.0; roots = roots } ≡ task) =
        map_some (λ roots. record { nodes = nodes.0; roots = roots }) (links_within given t k (output_read t ∷ [])) task nodes.2 in
        let runs : (runs : List Run) × (runs_within (body_at t) k the_tree ≡ Some runs) × (all_of (map (node_within given t k) runs) ≡ Some nodes.0) =
        then_some (λ rs. all_of (map (node_within given t k) rs)) (runs_within (body_at t) k the_tree) nodes.0 nodes.1 in
        subst AllDiffer (same_paths runs.0 nodes.0 runs.2 ∙ ap (λ x. paths_of x.nodes) roots.2) (list_differs k the_tree runs.0 runs.1).differ
