-- The links of nodes lead back where the reads of their runs do.
use Rattle.std.proofs.Common.{◌≡◌, inl, inr, ℕ, List, [], ◌∷◌, ◌++◌, map, Some, refl, sym, ◌∙◌, ap, subst, arith}
use Rattle.std.specs.Prelude.{slice_get, option_map}
use Rattle.gn_tree.specs.NodeKinds.{Kind}
use Rattle.gn_tree.specs.Trees.{Tree}
use Rattle.gn_rules.specs.Rules.{KeepsRules}
use Rattle.gn_node_set.specs.Lists.{all_of}
use Rattle.gn_node_set.specs.Paths.{Path}
use Rattle.gn_node_set.specs.Meanings.{Has, Source, a_value, Link, Node}
use Rattle.gn_exec_laws.specs.Graphs.{Task}
use Rattle.gn_exec_laws.specs.Fits.{paths_of}
use Rattle.gn_meaning.specs.Sites.{Way, the_tree, into, path_of, Site, at_output, at_input, at_item, at_constant, nowhere, Read}
use Rattle.gn_meaning.specs.Bodies.{tree_body, body_at}
use Rattle.gn_meaning.specs.Reads.{Run}
use Rattle.gn_meaning.specs.Origins.{read_origin, origin_within}
use Rattle.gn_meaning.specs.Forms.{HasForm}
use Rattle.gn_meaning.specs.There.{to_the_tree}
use Rattle.gn_meaning.specs.Denotation.{Given}
use Rattle.gn_meaning.specs.Demand.{output_read}
use Rattle.gn_meaning.proofs.Options.{some_same, then_some, map_some}
use Rattle.gn_stands.specs.Sources.{source_at, link_at, read_within}
use Rattle.gn_stands.specs.Tasks.{runs_within, links_within, node_within, nodes_within, task_within}
use Rattle.gn_stands.proofs.Tasks.{image_found}
use Rattle.gn_found.specs.Claims.{LeadsInto, LinksLeadInto, LinksLeadBack}
use Rattle.gn_found.proofs.Back.{paths_in, ComesOf, read_comes, tree_input_comes, ReadsCome, RunsComeBack, Done, out_comes, list_done}

module _ {V : Type 0} (given : Given V) (t : Tree) (k : ℕ) where
  abbrev Into : List Path → Source V → Type 0
  Into = LeadsInto {V = V}

  source_back : (paths : List Path) (site : Site) (source : Source V) → source_at given site ≡ Some source → ((way : Way) (n s : ℕ) → site ≡ at_output way n s → Has paths (path_of way n)) → Into paths source
  source_back paths (at_output way n s) source e own = subst (Into paths) (some_same e) (own way n s refl)
  source_back paths (at_input the_tree i) source e own =
      let v : (v : V) × (slice_get given.inputs i ≡ Some v) × (a_value v ≡ source) = map_some a_value (slice_get given.inputs i) source e in
      subst (Into paths) v.2 tt
  source_back paths (at_input (into way step) i) source e own = cc
  source_back paths (at_item way n j i) source e own = cc
  source_back paths (at_constant c) source e own = subst (Into paths) (some_same e) tt
  source_back paths nowhere source e own = cc

  link_back : (paths : List Path) (r : Read) (link : Link V) → read_within given t k r ≡ Some link → ComesOf t paths r.from → Into paths link.from
  link_back paths r link e come =
      let o : (o : Read) × (read_origin t (origin_within t k) r ≡ Some o) × (link_at given o ≡ Some link) = then_some (link_at given) (read_origin t (origin_within t k) r) link e in
      let x : (x : Source V) × (source_at given o.0.from ≡ Some x) × (record { from = x; through = o.0.through } ≡ link) = map_some (λ x. record { from = x; through = o.0.through }) (source_at given o.0.from) link o.2 in
      subst (Into paths) (ap (λ l. l.from) x.2) (source_back paths o.0.from x.0 x.1 (λ way n s same. read_comes t paths r come k o.0 way n s o.1 same))

  links_back : (paths : List Path) (reads : List Read) (links : List (Link V)) → links_within given t k reads ≡ Some links → ReadsCome t paths reads → LinksLeadInto paths links
  links_back paths reads links e come link h =
      let r : (r : Read) × Has reads r × (read_within given t k r ≡ Some link) = image_found (read_within given t k) reads links e link h in
      link_back paths r.0 link r.2 (come r.0 r.1)

  nodes_back : (paths : List Path) (runs : List Run) (nodes : List (Node Kind V)) → all_of (map (node_within given t k) runs) ≡ Some nodes → RunsComeBack t paths runs → LinksLeadBack paths nodes × (paths_of nodes ≡ paths_in runs)
  nodes_back paths [] nodes e b = subst (λ ns. LinksLeadBack paths ns × (paths_of ns ≡ [])) (some_same e) (tt, refl)
  nodes_back paths (run ∷ runs) nodes e (b, bs) =
      let first : (x : Node Kind V) × (node_within given t k run ≡ Some x) × (option_map (λ vs. x ∷ vs) (all_of (map (node_within given t k) runs)) ≡ Some nodes) =
      then_some (λ v. option_map (λ vs. v ∷ vs) (all_of (map (node_within given t k) runs))) (node_within given t k run) nodes e in
      let rest : (ns : List (Node Kind V)) × (all_of (map (node_within given t k) runs) ≡ Some ns) × (first.0 ∷ ns ≡ nodes) = map_some (λ vs. first.0 ∷ vs) (all_of (map (node_within given t k) runs)) nodes first.2 in
      let links : (links : List (Link V)) × (links_within given t k run.reads ≡ Some links) × (record { path = run.path; kind = run.kind; links = links } ≡ first.0) =
      map_some (λ links. record { path = run.path; kind = run.kind; links = links }) (links_within given t k run.reads) first.0 first.1 in
      let path : run.path ≡ first.0.path = ap (λ x. x.path) links.2 in
      let again : LinksLeadBack (paths ++ run.path ∷ []) rest.0 × (paths_of rest.0 ≡ paths_in runs) = nodes_back (paths ++ run.path ∷ []) runs rest.0 rest.1 bs in
      subst (λ ns. LinksLeadBack paths ns × (paths_of ns ≡ run.path ∷ paths_in runs)) rest.2 (
        (subst (λ x. LinksLeadInto paths x.links) links.2 (links_back paths run.reads links.0 links.1 b), subst (λ p. LinksLeadBack (paths ++ p ∷ []) rest.0) path again.0),
        ap (λ p. p ∷ paths_of rest.0) (sym path) ∙ ap (λ ps. run.path ∷ ps) again.1,
      )

  pub found_back : (task : Task Kind V) → HasForm t → KeepsRules t → task_within given t k ≡ Some task → LinksLeadBack [] task.nodes × LinksLeadInto (paths_of task.nodes) task.roots
  found_back task form keeps e =
      let nodes : (nodes : List (Node Kind V)) × (nodes_within given t k the_tree ≡ Some nodes) × (option_map (λ roots. record { nodes = nodes; roots = roots }) (links_within given t k (output_read t ∷ [])) ≡ Some task) =
      then_some (λ ns. option_map (λ roots. record { nodes = ns; roots = roots }) (links_within given t k (output_read t ∷ []))) (nodes_within given t k the_tree) task e in
      let roots : (roots : List (Link V)) × (links_within given t k (output_read t ∷ []) ≡ Some roots) × (record { nodes = nodes.0; roots = roots } ≡ task) =
      map_some (λ roots. record { nodes = nodes.0; roots = roots }) (links_within given t k (output_read t ∷ [])) task nodes.2 in
      let runs : (runs : List Run) × (runs_within (body_at t) k the_tree ≡ Some runs) × (all_of (map (node_within given t k) runs) ≡ Some nodes.0) =
      then_some (λ rs. all_of (map (node_within given t k) rs)) (runs_within (body_at t) k the_tree) nodes.0 nodes.1 in
      let done : Done t the_tree (tree_body t) [] runs.0 = list_done t keeps form k the_tree (tree_body t) to_the_tree [] (λ i h. tree_input_comes t [] i) runs.0 runs.1 in
      let back : LinksLeadBack [] nodes.0 × (paths_of nodes.0 ≡ paths_in runs.0) = nodes_back [] runs.0 nodes.0 runs.2 done.back in
      let out : ComesOf t (paths_in runs.0) (output_read t).from = out_comes t keeps form (paths_in runs.0) the_tree (tree_body t) to_the_tree (λ i h. tree_input_comes t (paths_in runs.0) i) done.outputs 0 (omega arith) in
      let given_out : LinksLeadInto (paths_in runs.0) roots.0 = links_back (paths_in runs.0) (output_read t ∷ []) roots.0 roots.1 (λ r h. only_output (paths_in runs.0) out r h) in
      subst (λ x. LinksLeadBack [] x.nodes × LinksLeadInto (paths_of x.nodes) x.roots) roots.2 (back.0, subst (λ ps. LinksLeadInto ps roots.0) (sym back.1) given_out)
    where
      only_output : (paths : List Path) → ComesOf t paths (output_read t).from → (r : Read) → Has (output_read t ∷ []) r → ComesOf t paths r.from
      only_output paths out r (inl same) = subst (λ x. ComesOf t paths x.from) (sym same) out
      only_output paths out r (inr h) = absurd h
