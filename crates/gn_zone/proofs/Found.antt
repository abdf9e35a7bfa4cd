-- What is found for a zone over given values is what is found over names, filled in.
use Rattle.std.proofs.Common.{◌≡◌, ℕ, List, [], ◌∷◌, ◌++◌, map, Option, Some, refl, sym, ◌∙◌, ap}
use Rattle.std.specs.Prelude.{option_map, option_and_then}
use Rattle.std.specs.List.{flat_map, range_with_len}
use Rattle.gn_tree.specs.NodeKinds.{Kind}
use Rattle.gn_node_set.specs.Lists.{all_of}
use Rattle.gn_node_set.specs.Paths.{Path}
use Rattle.gn_node_set.specs.Meanings.{Source, Link, Node, Opened}
use Rattle.gn_node_set.proofs.Lists.{map_append}
use Rattle.gn_meaning.specs.Sites.{Constant, Way, the_tree, into, turn_step, Site, at_output, at_input, at_item, at_constant, nowhere, Read}
use Rattle.gn_meaning.specs.Bodies.{Body}
use Rattle.gn_meaning.specs.Reads.{Run}
use Rattle.gn_meaning.specs.Denotation.{Given}
use Rattle.gn_meaning.proofs.Options.{some_same, then_some, map_some}
use Rattle.gn_stands.specs.Stands.{items_after}
use Rattle.gn_stands.specs.Tasks.{runs_within}
use Rattle.gn_stands.specs.Zones.{place_by, zone_inside, list_in, inner_within, inner_source, inner_link, inner_read, inner_node, inner_nodes, turns_within, opened_at, opened_within}
use Rattle.gn_found.specs.Filled.{by_name, fill_source, fill_link, fill_node}
use Rattle.gn_zone.specs.Filled.{fill_opened}

-- what one function finds of each member, the other finds too, with an image of it
module _ {A B C : Type 0} (f : A → Option B) (g : A → Option C) (image : B → C) (found : (a : A) (b : B) → f a ≡ Some b → g a ≡ Some (image b)) where
  all_found : (xs : List A) (ys : List B) → all_of (map f xs) ≡ Some ys → all_of (map g xs) ≡ Some (map image ys)
  all_found [] ys e = ap (λ vs. Some (map image vs)) (some_same e)
  all_found (x ∷ xs) ys e =
      let first : (y : B) × (f x ≡ Some y) × (option_map (λ vs. y ∷ vs) (all_of (map f xs)) ≡ Some ys) = then_some (λ v. option_map (λ vs. v ∷ vs) (all_of (map f xs))) (f x) ys e in
      let rest : (vs : List B) × (all_of (map f xs) ≡ Some vs) × (first.0 ∷ vs ≡ ys) = map_some (λ vs. first.0 ∷ vs) (all_of (map f xs)) ys first.2 in
      ap (option_and_then (λ v. option_map (λ vs. v ∷ vs) (all_of (map g xs)))) (found x first.0 first.1)
      ∙ (ap (option_map (λ vs. image first.0 ∷ vs)) (all_found xs rest.0 rest.1) ∙ ap (λ vs. Some (map image vs)) rest.2)

-- images of lists one after another are the images of what is in them
joined : {A B : Type 0} (f : A → B) (lists : List (List A)) → flat_map (λ xs. xs) (map (map f) lists) ≡ map f (flat_map (λ xs. xs) lists)
joined f [] = refl
joined f (xs ∷ lists) = ap (λ ys. map f xs ++ ys) (joined f lists) ∙ sym (map_append f xs (flat_map (λ ys. ys) lists))

module _ {V : Type 0} (given : Given V) (nothing : V) (kind : Kind) (path : Path) where
  source_found : (site : Site) (x : Source (Option Constant)) → inner_source kind path by_name site ≡ Some x → inner_source kind path given site ≡ Some (fill_source given nothing x)
  source_found (at_output way n s) x e = ap (λ y. Some (fill_source given nothing y)) (some_same e)
  source_found (at_input way i) x e = cc
  source_found (at_item way n k i) x e = ap (λ y. Some (fill_source given nothing y)) (some_same e)
  source_found (at_constant c) x e = ap (λ y. Some (fill_source given nothing y)) (some_same e)
  source_found nowhere x e = cc

  link_found : (r origin : Read) (link : Link (Option Constant)) → inner_link kind path by_name r origin ≡ Some link → inner_link kind path given r origin ≡ Some (fill_link given nothing link)
  link_found r origin link e =
      let x : (x : Source (Option Constant)) × (inner_source kind path by_name origin.from ≡ Some x) × (record { from = x; through = origin.through ++ r.through } ≡ link) =
      map_some (λ x. record { from = x; through = origin.through ++ r.through }) (inner_source kind path by_name origin.from) link e in
      ap (option_map (λ x. record { from = x; through = origin.through ++ r.through })) (source_found origin.from x.0 x.1) ∙ ap (λ l. Some (fill_link given nothing l)) x.2

  module _ (k : ℕ) where
    read_found : (r : Read) (link : Link (Option Constant)) → inner_read kind path by_name k r ≡ Some link → inner_read kind path given k r ≡ Some (fill_link given nothing link)
    read_found r link e =
        let o : (o : Read) × (inner_within kind path k r.from ≡ Some o) × (inner_link kind path by_name r o ≡ Some link) = then_some (inner_link kind path by_name r) (inner_within kind path k r.from) link e in
        ap (option_and_then (inner_link kind path given r)) o.1 ∙ link_found r o.0 link o.2

    reads_found : (reads : List Read) (links : List (Link (Option Constant))) → all_of (map (inner_read kind path by_name k) reads) ≡ Some links → all_of (map (inner_read kind path given k) reads) ≡ Some (map (fill_link given nothing) links)
    reads_found reads links e = all_found (inner_read kind path by_name k) (inner_read kind path given k) (fill_link given nothing) read_found reads links e

    node_found : (run : Run) (node : Node Kind (Option Constant)) → inner_node kind path by_name k run ≡ Some node → inner_node kind path given k run ≡ Some (fill_node given nothing node)
    node_found run node e =
        let links : (links : List (Link (Option Constant))) × (all_of (map (inner_read kind path by_name k) run.reads) ≡ Some links) × (record { path = run.path; kind = run.kind; links = links } ≡ node) =
        map_some (λ links. record { path = run.path; kind = run.kind; links = links }) (all_of (map (inner_read kind path by_name k) run.reads)) node e in
        ap (option_map (λ links. record { path = run.path; kind = run.kind; links = links })) (reads_found run.reads links.0 links.1) ∙ ap (λ x. Some (fill_node given nothing x)) links.2

    nodes_found : (way : Way) (nodes : List (Node Kind (Option Constant))) → inner_nodes kind path by_name k way ≡ Some nodes → inner_nodes kind path given k way ≡ Some (map (fill_node given nothing) nodes)
    nodes_found way nodes e =
        let runs : (runs : List Run) × (runs_within (list_in kind path) k way ≡ Some runs) × (all_of (map (inner_node kind path by_name k) runs) ≡ Some nodes) =
        then_some (λ rs. all_of (map (inner_node kind path by_name k) rs)) (runs_within (list_in kind path) k way) nodes e in
        ap (option_and_then (λ rs. all_of (map (inner_node kind path given k) rs))) runs.1
        ∙ all_found (inner_node kind path by_name k) (inner_node kind path given k) (fill_node given nothing) node_found runs.0 nodes runs.2

    turns_found : (turns : ℕ) (way : Way) (n : ℕ) (nodes : List (Node Kind (Option Constant))) → turns_within kind path by_name k turns way n ≡ Some nodes → turns_within kind path given k turns way n ≡ Some (map (fill_node given nothing) nodes)
    turns_found turns way n nodes e =
        let lists : (lists : List (List (Node Kind (Option Constant)))) × (all_of (map (λ j. inner_nodes kind path by_name k (into way (turn_step n j))) (range_with_len 0 turns)) ≡ Some lists) × (flat_map (λ ns. ns) lists ≡ nodes) =
        map_some (flat_map (λ ns. ns)) (all_of (map (λ j. inner_nodes kind path by_name k (into way (turn_step n j))) (range_with_len 0 turns))) nodes e in
        ap (option_map (flat_map (λ ns. ns)))
        (all_found (λ j. inner_nodes kind path by_name k (into way (turn_step n j))) (λ j. inner_nodes kind path given k (into way (turn_step n j))) (map (fill_node given nothing))
        (λ j ns f. nodes_found (into way (turn_step n j)) ns f) (range_with_len 0 turns) lists.0 lists.1)
        ∙ (ap (λ ns. Some ns) (joined (fill_node given nothing) lists.0) ∙ ap (λ ns. Some (map (fill_node given nothing) ns)) lists.2)

    place_found : (turns : ℕ) (b : Body) (place : Way × ℕ) (opened : Opened Kind (Option Constant)) → opened_at kind path by_name k turns b place ≡ Some opened → opened_at kind path given k turns b place ≡ Some (fill_opened given nothing opened)
    place_found turns b (way, n) opened e =
        let nodes : (nodes : List (Node Kind (Option Constant))) × (turns_within kind path by_name k turns way n ≡ Some nodes) × (option_map (λ outputs. record { nodes = nodes; outputs = outputs }) (all_of (map (inner_read kind path by_name k) (items_after way n turns b))) ≡ Some opened) =
        then_some (λ ns. option_map (λ outputs. record { nodes = ns; outputs = outputs }) (all_of (map (inner_read kind path by_name k) (items_after way n turns b)))) (turns_within kind path by_name k turns way n) opened e in
        let outputs : (outputs : List (Link (Option Constant))) × (all_of (map (inner_read kind path by_name k) (items_after way n turns b)) ≡ Some outputs) × (record { nodes = nodes.0; outputs = outputs } ≡ opened) =
        map_some (λ outputs. record { nodes = nodes.0; outputs = outputs }) (all_of (map (inner_read kind path by_name k) (items_after way n turns b))) opened nodes.2 in
        ap (option_and_then (λ ns. option_map (λ outputs. record { nodes = ns; outputs = outputs }) (all_of (map (inner_read kind path given k) (items_after way n turns b))))) (turns_found turns way n nodes.0 nodes.1)
        ∙ (ap (option_map (λ outputs. record { nodes = map (fill_node given nothing) nodes.0; outputs = outputs })) (reads_found (items_after way n turns b) outputs.0 outputs.1)
        ∙ ap (λ x. Some (fill_opened given nothing x)) outputs.2)

    pub zone_found : (turns : ℕ) (opened : Opened Kind (Option Constant)) → opened_within kind path by_name k turns ≡ Some opened → opened_within kind path given k turns ≡ Some (fill_opened given nothing opened)
    zone_found turns opened e =
        let body : (b : Body) × (zone_inside kind path ≡ Some b) × (option_and_then (opened_at kind path by_name k turns b) (place_by the_tree path) ≡ Some opened) =
        then_some (λ b. option_and_then (opened_at kind path by_name k turns b) (place_by the_tree path)) (zone_inside kind path) opened e in
        let place : (p : Way × ℕ) × (place_by the_tree path ≡ Some p) × (opened_at kind path by_name k turns body.0 p ≡ Some opened) = then_some (opened_at kind path by_name k turns body.0) (place_by the_tree path) opened body.2 in
        ap (option_and_then (λ b. option_and_then (opened_at kind path given k turns b) (place_by the_tree path))) body.1
        ∙ (ap (option_and_then (opened_at kind path given k turns body.0)) place.1 ∙ place_found turns body.0 place.0 opened place.2)
