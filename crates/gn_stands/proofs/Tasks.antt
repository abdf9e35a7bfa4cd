-- The graph that is found for a tree stands for it.
use Rattle.std.proofs.Common.{◌≡◌, ◌<◌, inl, inr, ℕ, zero, suc, List, [], ◌∷◌, map, length, Option, Some, None, refl, sym, ◌∙◌, ap, subst, arith}
use Rattle.std.specs.Prelude.{option_map, option_and_then}
use Rattle.std.specs.Option.{option_map_or}
use Rattle.std.specs.List.{flat_map}
use Rattle.gn_kinds.specs.Row.{Text}
use Rattle.gn_tree.specs.NodeKinds.{Kind}
use Rattle.gn_tree.specs.Trees.{Node as TreeNode, node, Nodes, no_nodes, and_node, Tree}
use Rattle.gn_rules.specs.Sockets.{ids, node_at}
use Rattle.gn_rules.specs.Rules.{graph_from, graph_of}
use Rattle.gn_node_set.specs.Lists.{all_of}
use Rattle.gn_node_set.specs.Meanings.{Has, Link, Node}
use Rattle.gn_exec_laws.specs.Graphs.{Task}
use Rattle.gn_meaning.specs.Sites.{Way, the_tree, into, plain_step, at_output, Read}
use Rattle.gn_meaning.specs.Bodies.{Body, body_at}
use Rattle.gn_meaning.specs.Reads.{Run, Part, a_node, a_group, a_repeat, run_in, part_in, part_at, run_of}
use Rattle.gn_meaning.specs.Denotation.{Given}
use Rattle.gn_meaning.specs.Demand.{output_read}
use Rattle.gn_meaning.proofs.Options.{some_same, then_some, map_some}
use Rattle.gn_stands.specs.Sources.{read_within, CarryAll}
use Rattle.gn_stands.specs.Stands.{Unfolds, the_list, in_group, IsNodeOf, AreRuns, StandsFor}
use Rattle.gn_stands.specs.Order.{by_rank}
use Rattle.gn_stands.specs.Tasks.{order_at, part_runs, runs_within, links_within, node_within, nodes_within, task_within}
use Rattle.gn_stands.proofs.Reach.{part_of_run}
use Rattle.gn_stands.proofs.Ranked.{has_ranked, has_flat, flat_has}

-- ---- lists of what may be missing

module _ {A B : Type 0} (f : A → Option B) where
  pub found_image : (xs : List A) (ys : List B) → all_of (map f xs) ≡ Some ys → (x : A) → Has xs x → (y : B) × (f x ≡ Some y) × Has ys y
  found_image [] ys e x h = absurd h
  found_image (z ∷ xs) ys e x h = by_place (λ vs f' k. found_image xs vs f' x k) h
    where
      y : (y : B) × (f z ≡ Some y) × (option_map (λ vs. y ∷ vs) (all_of (map f xs)) ≡ Some ys)
      y = then_some (λ v. option_map (λ vs. v ∷ vs) (all_of (map f xs))) (f z) ys e

      rest : (vs : List B) × (all_of (map f xs) ≡ Some vs) × (y.0 ∷ vs ≡ ys)
      rest = map_some (λ vs. y.0 ∷ vs) (all_of (map f xs)) ys y.2

      by_place : ((vs : List B) → all_of (map f xs) ≡ Some vs → Has xs x → (v : B) × (f x ≡ Some v) × Has vs v) → Has (z ∷ xs) x → (v : B) × (f x ≡ Some v) × Has ys v
      by_place again (inl same) = (y.0, ap f same ∙ y.1, subst (λ vs. Has vs y.0) rest.2 (inl refl))
      by_place again (inr k) =
          let q : (v : B) × (f x ≡ Some v) × Has rest.0 v = again rest.0 rest.1 k in
          (q.0, q.1, subst (λ vs. Has vs q.0) rest.2 (inr q.2))

  pub image_found : (xs : List A) (ys : List B) → all_of (map f xs) ≡ Some ys → (y : B) → Has ys y → (x : A) × Has xs x × (f x ≡ Some y)
  image_found [] ys e y h = absurd (subst (λ vs. Has vs y) (sym (some_same e)) h)
  image_found (z ∷ xs) ys e y h = by_place (λ vs f' k. image_found xs vs f' y k) (subst (λ vs. Has vs y) (sym rest.2) h)
    where
      u : (u : B) × (f z ≡ Some u) × (option_map (λ vs. u ∷ vs) (all_of (map f xs)) ≡ Some ys)
      u = then_some (λ v. option_map (λ vs. v ∷ vs) (all_of (map f xs))) (f z) ys e

      rest : (vs : List B) × (all_of (map f xs) ≡ Some vs) × (u.0 ∷ vs ≡ ys)
      rest = map_some (λ vs. u.0 ∷ vs) (all_of (map f xs)) ys u.2

      by_place : ((vs : List B) → all_of (map f xs) ≡ Some vs → Has vs y → (x : A) × Has xs x × (f x ≡ Some y)) → Has (u.0 ∷ rest.0) y → (x : A) × Has (z ∷ xs) x × (f x ≡ Some y)
      by_place again (inl same) = (z, inl refl, u.1 ∙ ap Some (sym same))
      by_place again (inr k) = let q : (x : A) × Has xs x × (f x ≡ Some y) = again rest.0 rest.1 k in (q.0, inr q.1, q.2)

-- ---- the order of a list has each of its nodes

pub below_count : (names : List Text) (ns : Nodes) (n : ℕ) (x : TreeNode) → node_at ns n ≡ Some x → n < length (graph_from names ns)
below_count names no_nodes n x e = cc
below_count names (and_node (node id kind set inputs) ns) zero x e = omega arith
below_count names (and_node (node id kind set inputs) ns) (suc n) x e = let less : n < length (graph_from names ns) = below_count names ns n x e in omega (arith, less)

module _ (t : Tree) where
  part_ordered : (way : Way) (n : ℕ) (p : Part) → part_at t way n ≡ Some p → Has (order_at (body_at t) way) n
  part_ordered way n p e =
      let list : (b : Body) × (body_at t way ≡ Some b) × (option_map (part_in b.scope way n) (node_at b.scope.nodes n) ≡ Some p) =
      then_some (λ b. option_map (part_in b.scope way n) (node_at b.scope.nodes n)) (body_at t way) p e in
      let x : (x : TreeNode) × (node_at list.0.scope.nodes n ≡ Some x) × (part_in list.0.scope way n x ≡ p) = map_some (part_in list.0.scope way n) (node_at list.0.scope.nodes n) p list.2 in
      subst (λ o. Has (option_map_or (λ b. by_rank (graph_of b.scope.nodes)) o []) n) (sym list.1)
      (has_ranked (graph_of list.0.scope.nodes) n (below_count (ids list.0.scope.nodes) list.0.scope.nodes n x.0 x.1))

  abbrev known_in : ℕ → Way → ℕ → Option (List Run)
  known_in k way n = part_runs (body_at t) (runs_within (body_at t) k) way n (part_at t way n)

  parts_found : (k : ℕ) (way : Way) (runs : List Run) → runs_within (body_at t) (suc k) way ≡ Some runs → (lists : List (List Run)) × (all_of (map (known_in k way) (order_at (body_at t) way)) ≡ Some lists) × (flat_map (λ rs. rs) lists ≡ runs)
  parts_found k way runs e = map_some (flat_map (λ rs. rs)) (all_of (map (known_in k way) (order_at (body_at t) way))) runs e

  -- what is found for a node is found for its list
  part_found : (k : ℕ) (way : Way) (runs : List Run) (n : ℕ) (p : Part) → runs_within (body_at t) (suc k) way ≡ Some runs → part_at t way n ≡ Some p → (rs : List Run) × (part_runs (body_at t) (runs_within (body_at t) k) way n (Some p) ≡ Some rs) × ((run : Run) → Has rs run → Has runs run)
  part_found k way runs n p e at =
      let lists : (lists : List (List Run)) × (all_of (map (known_in k way) (order_at (body_at t) way)) ≡ Some lists) × (flat_map (λ rs. rs) lists ≡ runs) = parts_found k way runs e in
      let rs : (rs : List Run) × (known_in k way n ≡ Some rs) × Has lists.0 rs = found_image (known_in k way) (order_at (body_at t) way) lists.0 lists.1 n (part_ordered way n p at) in
      (rs.0, ap (part_runs (body_at t) (runs_within (body_at t) k) way n) (sym at) ∙ rs.1, λ run h. subst (λ all. Has all run) lists.2 (has_flat (λ xs. xs) lists.0 rs.0 run rs.2 h))

  abbrev Within : Way → List Run → Type 0
  Within way runs = (j : ℕ) × (rs : List Run) × (runs_within (body_at t) j way ≡ Some rs) × ((run : Run) → Has rs run → Has runs run)

  inner_found : (k : ℕ) (outer : Way) (runs : List Run) → runs_within (body_at t) k outer ≡ Some runs → {way : Way} → Unfolds t outer way → Within way runs
  inner_found k outer runs e the_list = (k, runs, e, λ run h. h)
  inner_found k outer runs e (in_group {way} n b reads u at) = by_fuel (inner_found k outer runs e u)
    where
      by_fuel : Within way runs → Within (into way (plain_step n)) runs
      by_fuel (zero, rs, f, sub) = cc
      by_fuel (suc j, rs, f, sub) =
          let q : (inner : List Run) × (runs_within (body_at t) j (into way (plain_step n)) ≡ Some inner) × ((run : Run) → Has inner run → Has rs run) = part_found j way rs n (a_group b reads) f at in
          (j, q.0, q.1, λ run h. sub run (q.2 run h))

  own_run : (run : Run) (rs : List Run) → Some (run ∷ []) ≡ Some rs → Has rs run
  own_run run rs e = subst (λ xs. Has xs run) (some_same e) (inl refl)

  pub run_found : (k : ℕ) (outer : Way) (runs : List Run) → runs_within (body_at t) k outer ≡ Some runs → (way : Way) (n : ℕ) (run : Run) → Unfolds t outer way → run_of t (at_output way n 0) ≡ Some run → Has runs run
  run_found k outer runs e way n run u at = by_fuel (inner_found k outer runs e u)
    where
      by_fuel : Within way runs → Has runs run
      by_fuel (zero, rs, f, sub) = cc
      by_fuel (suc j, rs, f, sub) = elim (part_of_run t way n 0 run at) [
        | inl plain ↦ let q : _ = part_found j way rs n (a_node run) f plain in sub run (q.2 run (own_run run q.0 q.1))
        | inr (b, zone) ↦ let q : _ = part_found j way rs n (a_repeat run b) f zone in sub run (q.2 run (own_run run q.0 q.1))
      ]

  abbrev IsIn : Way → Run → Type 0
  IsIn outer run = (way : Way) × (n : ℕ) × Unfolds t outer way × (run_of t (at_output way n 0) ≡ Some run)

  only_own : (way : Way) (n : ℕ) (outer : Way) (own run : Run) (rs : List Run) → Unfolds t outer way → run_of t (at_output way n 0) ≡ Some own → Some (own ∷ []) ≡ Some rs → Has rs run → IsIn outer run
  only_own way n outer own run rs u at e h = by_place (subst (λ xs. Has xs run) (sym (some_same e)) h)
    where
      by_place : Has (own ∷ []) run → IsIn outer run
      by_place (inl same) = (way, n, u, at ∙ ap Some (sym same))
      by_place (inr k) = absurd k

  pub found_run : (k : ℕ) (outer way : Way) (runs : List Run) → Unfolds t outer way → runs_within (body_at t) k way ≡ Some runs → (run : Run) → Has runs run → IsIn outer run
  found_run zero outer way runs u e run h = cc
  found_run (suc k) outer way runs u e run h =
      let lists : (lists : List (List Run)) × (all_of (map (known_in k way) (order_at (body_at t) way)) ≡ Some lists) × (flat_map (λ rs. rs) lists ≡ runs) = parts_found k way runs e in
      let rs : (rs : List Run) × Has lists.0 rs × Has rs run = flat_has (λ xs. xs) lists.0 run (subst (λ all. Has all run) (sym lists.2) h) in
      let n : (n : ℕ) × Has (order_at (body_at t) way) n × (known_in k way n ≡ Some rs.0) = image_found (known_in k way) (order_at (body_at t) way) lists.0 lists.1 rs.0 rs.1 in
      by_part (λ inner more f run' h'. found_run k outer inner more f.0 f.1 run' h') n.0 rs.0 (part_at t way n.0) refl n.2 rs.2
    where
      by_part : ((inner : Way) (more : List Run) → Unfolds t outer inner × (runs_within (body_at t) k inner ≡ Some more) → (run' : Run) → Has more run' → IsIn outer run')
          → (n : ℕ) (rs : List Run) (p : Option Part) → part_at t way n ≡ p → part_runs (body_at t) (runs_within (body_at t) k) way n p ≡ Some rs → Has rs run → IsIn outer run
      by_part again n rs None at f h' = absurd (subst (λ xs. Has xs run) (sym (some_same f)) h')
      by_part again n rs (Some (a_node own)) at f h' = only_own way n outer own run rs u (ap (option_and_then run_in) at) f h'
      by_part again n rs (Some (a_group b reads)) at f h' = again (into way (plain_step n)) rs (in_group n b reads u at, f) run h'
      by_part again n rs (Some (a_repeat own b)) at f h' = only_own way n outer own run rs u (ap (option_and_then run_in) at) f h'

-- ---- nodes

module _ {V : Type 0} (given : Given V) (t : Tree) (k : ℕ) where
  pub links_carry : (rs : List Read) (links : List (Link V)) → links_within given t k rs ≡ Some links → CarryAll given t rs links
  links_carry [] links e = subst (CarryAll given t []) (some_same e) tt
  links_carry (r ∷ rs) links e =
      let link : (link : Link V) × (read_within given t k r ≡ Some link) × (option_map (λ ls. link ∷ ls) (links_within given t k rs) ≡ Some links) =
      then_some (λ l. option_map (λ ls. l ∷ ls) (links_within given t k rs)) (read_within given t k r) links e in
      let rest : (ls : List (Link V)) × (links_within given t k rs ≡ Some ls) × (link.0 ∷ ls ≡ links) = map_some (λ ls. link.0 ∷ ls) (links_within given t k rs) links link.2 in
      subst (CarryAll given t (r ∷ rs)) rest.2 ((k, link.1), links_carry rs rest.0 rest.1)

  node_is : (run : Run) (x : Node Kind V) → node_within given t k run ≡ Some x → IsNodeOf given t run x
  node_is run x e =
      let links : (links : List (Link V)) × (links_within given t k run.reads ≡ Some links) × (record { path = run.path; kind = run.kind; links = links } ≡ x) =
      map_some (λ links. record { path = run.path; kind = run.kind; links = links }) (links_within given t k run.reads) x e in
      subst (IsNodeOf given t run) links.2 (record { path = refl; kind = refl; links = links_carry run.reads links.0 links.1 })

  -- the nodes that are found for a list are those of its runs
  pub found_nodes : (outer : Way) (nodes : List (Node Kind V)) → nodes_within given t k outer ≡ Some nodes → AreRuns given t (Unfolds t outer) nodes
  found_nodes outer nodes e = record { each = each; only = only }
    where
      runs : (runs : List Run) × (runs_within (body_at t) k outer ≡ Some runs) × (all_of (map (node_within given t k) runs) ≡ Some nodes)
      runs = then_some (λ rs. all_of (map (node_within given t k) rs)) (runs_within (body_at t) k outer) nodes e

      each : (way : Way) (n : ℕ) (run : Run) → Unfolds t outer way → run_of t (at_output way n 0) ≡ Some run → (x : Node Kind V) × Has nodes x × IsNodeOf given t run x
      each way n run u at =
          let x : (x : Node Kind V) × (node_within given t k run ≡ Some x) × Has nodes x = found_image (node_within given t k) runs.0 nodes runs.2 run (run_found t k outer runs.0 runs.1 way n run u at) in
          (x.0, x.2, node_is run x.0 x.1)

      only : (x : Node Kind V) → Has nodes x → (way : Way) × (n : ℕ) × (run : Run) × Unfolds t outer way × (run_of t (at_output way n 0) ≡ Some run) × IsNodeOf given t run x
      only x h =
          let run : (run : Run) × Has runs.0 run × (node_within given t k run ≡ Some x) = image_found (node_within given t k) runs.0 nodes runs.2 x h in
          let at : (way : Way) × (n : ℕ) × Unfolds t outer way × (run_of t (at_output way n 0) ≡ Some run.0) = found_run t k outer outer runs.0 the_list runs.1 run.0 run.1 in
          (at.0, at.1, run.0, at.2, at.3, node_is run.0 x run.2)

  pub found_stands : (task : Task Kind V) → task_within given t k ≡ Some task → StandsFor given t task
  found_stands task e =
      let nodes : (nodes : List (Node Kind V)) × (nodes_within given t k the_tree ≡ Some nodes) × (option_map (λ roots. record { nodes = nodes; roots = roots }) (links_within given t k (output_read t ∷ [])) ≡ Some task) =
      then_some (λ ns. option_map (λ roots. record { nodes = ns; roots = roots }) (links_within given t k (output_read t ∷ []))) (nodes_within given t k the_tree) task e in
      let roots : (roots : List (Link V)) × (links_within given t k (output_read t ∷ []) ≡ Some roots) × (record { nodes = nodes.0; roots = roots } ≡ task) =
      map_some (λ roots. record { nodes = nodes.0; roots = roots }) (links_within given t k (output_read t ∷ [])) task nodes.2 in
      subst (StandsFor given t) roots.2 (record { nodes = found_nodes the_tree nodes.0 nodes.1; roots = links_carry (output_read t ∷ []) roots.0 roots.1 })
