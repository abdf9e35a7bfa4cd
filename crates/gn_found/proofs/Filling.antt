-- The graph over given values is the one over names, filled in.
use Rattle.std.proofs.Common.{◌≡◌, ℕ, zero, suc, List, [], ◌∷◌, map, Option, Some, ◌∙◌, ap}
use Rattle.std.specs.Prelude.{slice_get, option_map, option_and_then}
use Rattle.gn_tree.specs.NodeKinds.{Kind}
use Rattle.gn_tree.specs.Trees.{Tree}
use Rattle.gn_node_set.specs.Lists.{all_of}
use Rattle.gn_node_set.specs.Meanings.{Source, a_value, Link, Node}
use Rattle.gn_exec_laws.specs.Graphs.{Task}
use Rattle.gn_meaning.specs.Sites.{Constant, Way, the_tree, into, Site, at_output, at_input, at_item, at_constant, nowhere, Read}
use Rattle.gn_meaning.specs.Bodies.{body_at}
use Rattle.gn_meaning.specs.Reads.{Run}
use Rattle.gn_meaning.specs.Origins.{read_origin, origin_within}
use Rattle.gn_meaning.specs.Denotation.{Given}
use Rattle.gn_meaning.specs.Demand.{output_read}
use Rattle.gn_meaning.proofs.Options.{some_same, then_some, map_some}
use Rattle.gn_stands.specs.Sources.{source_at, link_at, read_within}
use Rattle.gn_stands.specs.Tasks.{runs_within, links_within, node_within, nodes_within, task_within}
use Rattle.gn_found.specs.Filled.{by_name, fill_source, fill_link, fill_node, fill_task}

-- what one function finds of each member, the other finds too, with an image of it
module _ {A B C : Type 0} (f : A → Option B) (g : A → Option C) (image : B → C) (found : (a : A) (b : B) → f a ≡ Some b → g a ≡ Some (image b)) where
  all_found : (xs : List A) (ys : List B) → all_of (map f xs) ≡ Some ys → all_of (map g xs) ≡ Some (map image ys)
  all_found [] ys e = ap (λ vs. Some (map image vs)) (some_same e)
  all_found (x ∷ xs) ys e =
      let first : (y : B) × (f x ≡ Some y) × (option_map (λ vs. y ∷ vs) (all_of (map f xs)) ≡ Some ys) = then_some (λ v. option_map (λ vs. v ∷ vs) (all_of (map f xs))) (f x) ys e in
      let rest : (vs : List B) × (all_of (map f xs) ≡ Some vs) × (first.0 ∷ vs ≡ ys) = map_some (λ vs. first.0 ∷ vs) (all_of (map f xs)) ys first.2 in
      ap (option_and_then (λ v. option_map (λ vs. v ∷ vs) (all_of (map g xs)))) (found x first.0 first.1)
      ∙ (ap (option_map (λ vs. image first.0 ∷ vs)) (all_found xs rest.0 rest.1) ∙ ap (λ vs. Some (map image vs)) rest.2)

module _ {V : Type 0} (given : Given V) (input : V) (has_input : slice_get given.inputs 0 ≡ Some input) where
  source_found : (site : Site) (x : Source (Option Constant)) → source_at by_name site ≡ Some x → source_at given site ≡ Some (fill_source given input x)
  source_found (at_output way n s) x e = ap (λ y. Some (fill_source given input y)) (some_same e)
  source_found (at_input the_tree zero) x e = ap (option_map a_value) has_input ∙ ap (λ y. Some (fill_source given input y)) (some_same e)
  source_found (at_input the_tree (suc i)) x e = cc
  source_found (at_input (into way step) i) x e = cc
  source_found (at_item way n k i) x e = cc
  source_found (at_constant c) x e = ap (λ y. Some (fill_source given input y)) (some_same e)
  source_found nowhere x e = cc

  link_found : (origin : Read) (link : Link (Option Constant)) → link_at by_name origin ≡ Some link → link_at given origin ≡ Some (fill_link given input link)
  link_found origin link e =
      let x : (x : Source (Option Constant)) × (source_at by_name origin.from ≡ Some x) × (record { from = x; through = origin.through } ≡ link) =
      map_some (λ x. record { from = x; through = origin.through }) (source_at by_name origin.from) link e in
      ap (option_map (λ x. record { from = x; through = origin.through })) (source_found origin.from x.0 x.1) ∙ ap (λ l. Some (fill_link given input l)) x.2

  module _ (t : Tree) (k : ℕ) where
    read_found : (r : Read) (link : Link (Option Constant)) → read_within by_name t k r ≡ Some link → read_within given t k r ≡ Some (fill_link given input link)
    read_found r link e =
        let o : (o : Read) × (read_origin t (origin_within t k) r ≡ Some o) × (link_at by_name o ≡ Some link) = then_some (link_at by_name) (read_origin t (origin_within t k) r) link e in
        ap (option_and_then (link_at given)) o.1 ∙ link_found o.0 link o.2

    links_found : (reads : List Read) (links : List (Link (Option Constant))) → links_within by_name t k reads ≡ Some links → links_within given t k reads ≡ Some (map (fill_link given input) links)
    links_found reads links e = all_found (read_within by_name t k) (read_within given t k) (fill_link given input) read_found reads links e

    node_found : (run : Run) (node : Node Kind (Option Constant)) → node_within by_name t k run ≡ Some node → node_within given t k run ≡ Some (fill_node given input node)
    node_found run node e =
        let links : (links : List (Link (Option Constant))) × (links_within by_name t k run.reads ≡ Some links) × (record { path = run.path; kind = run.kind; links = links } ≡ node) =
        map_some (λ links. record { path = run.path; kind = run.kind; links = links }) (links_within by_name t k run.reads) node e in
        ap (option_map (λ links. record { path = run.path; kind = run.kind; links = links })) (links_found run.reads links.0 links.1) ∙ ap (λ x. Some (fill_node given input x)) links.2

    nodes_found : (way : Way) (nodes : List (Node Kind (Option Constant))) → nodes_within by_name t k way ≡ Some nodes → nodes_within given t k way ≡ Some (map (fill_node given input) nodes)
    nodes_found way nodes e =
        let runs : (runs : List Run) × (runs_within (body_at t) k way ≡ Some runs) × (all_of (map (node_within by_name t k) runs) ≡ Some nodes) =
        then_some (λ rs. all_of (map (node_within by_name t k) rs)) (runs_within (body_at t) k way) nodes e in
        ap (option_and_then (λ rs. all_of (map (node_within given t k) rs))) runs.1
        ∙ all_found (node_within by_name t k) (node_within given t k) (fill_node given input) node_found runs.0 nodes runs.2

    pub task_found : (task : Task Kind (Option Constant)) → task_within by_name t k ≡ Some task → task_within given t k ≡ Some (fill_task given input task)
    task_found task e =
        let nodes : (nodes : List (Node Kind (Option Constant))) × (nodes_within by_name t k the_tree ≡ Some nodes) × (option_map (λ roots. record { nodes = nodes; roots = roots }) (links_within by_name t k (output_read t ∷ [])) ≡ Some task) =
        then_some (λ ns. option_map (λ roots. record { nodes = ns; roots = roots }) (links_within by_name t k (output_read t ∷ []))) (nodes_within by_name t k the_tree) task e in
        let roots : (roots : List (Link (Option Constant))) × (links_within by_name t k (output_read t ∷ []) ≡ Some roots) × (record { nodes = nodes.0; roots = roots } ≡ task) =
        map_some (λ roots. record { nodes = nodes.0; roots = roots }) (links_within by_name t k (output_read t ∷ [])) task nodes.2 in
        ap (option_and_then (λ ns. option_map (λ roots. record { nodes = ns; roots = roots }) (links_within given t k (output_read t ∷ [])))) (nodes_found the_tree nodes.0 nodes.1)
        ∙ (ap (option_map (λ roots. record { nodes = map (fill_node given input) nodes.0; roots = roots })) (links_found (output_read t ∷ []) roots.0 roots.1)
        ∙ ap (λ x. Some (fill_task given input x)) roots.2)
