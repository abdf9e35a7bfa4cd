-- What is found for a zone has a link for each item of the body.
use Rattle.std.proofs.Common.{◌≡◌, ℕ, suc, List, [], ◌∷◌, map, length, Option, Some, sym, ◌∙◌, ap}
use Rattle.std.proofs.lemmas.List.{length-map}
use Rattle.std.proofs.lemmas.List.FromFn.{length-range_with_len}
use Rattle.std.specs.Prelude.{option_map, option_and_then}
use Rattle.std.specs.List.{range_with_len}
use Rattle.gn_tree.specs.NodeKinds.{Kind}
use Rattle.gn_node_set.specs.Lists.{all_of}
use Rattle.gn_node_set.specs.Paths.{Path}
use Rattle.gn_node_set.specs.Meanings.{Link, Node, Opened}
use Rattle.gn_meaning.specs.Sites.{Way, the_tree, at_item, plain_read}
use Rattle.gn_meaning.specs.Bodies.{Body}
use Rattle.gn_meaning.specs.Denotation.{Given}
use Rattle.gn_meaning.proofs.Options.{some_same, then_some, map_some}
use Rattle.gn_stands.specs.Stands.{items_after}
use Rattle.gn_stands.specs.Zones.{place_by, zone_inside, inner_read, turns_within, opened_at, opened_within}

all_long : {A B : Type 0} (f : A → Option B) (xs : List A) (ys : List B) → all_of (map f xs) ≡ Some ys → length ys ≡ length xs
all_long f [] ys e = ap (λ vs. length vs) (sym (some_same e))
all_long {A} {B} f (x ∷ xs) ys e =
    let first : (y : B) × (f x ≡ Some y) × (option_map (λ vs. y ∷ vs) (all_of (map f xs)) ≡ Some ys) = then_some (λ v. option_map (λ vs. v ∷ vs) (all_of (map f xs))) (f x) ys e in
    let rest : (vs : List B) × (all_of (map f xs) ≡ Some vs) × (first.0 ∷ vs ≡ ys) = map_some (λ vs. first.0 ∷ vs) (all_of (map f xs)) ys first.2 in
    sym (ap (λ vs. length vs) rest.2) ∙ ap (λ n. suc n) (all_long f xs rest.0 rest.1)

module _ {V : Type 0} (given : Given V) (kind : Kind) (path : Path) (k turns : ℕ) where
  place_long : (b : Body) (place : Way × ℕ) (opened : Opened Kind V) → opened_at kind path given k turns b place ≡ Some opened → length opened.outputs ≡ length b.sockets
  place_long b (way, n) opened e =
      let nodes : (nodes : List (Node Kind V)) × (turns_within kind path given k turns way n ≡ Some nodes) × (option_map (λ outputs. record { nodes = nodes; outputs = outputs }) (all_of (map (inner_read kind path given k) (items_after way n turns b))) ≡ Some opened) =
      then_some (λ ns. option_map (λ outputs. record { nodes = ns; outputs = outputs }) (all_of (map (inner_read kind path given k) (items_after way n turns b)))) (turns_within kind path given k turns way n) opened e in
      let outputs : (outputs : List (Link V)) × (all_of (map (inner_read kind path given k) (items_after way n turns b)) ≡ Some outputs) × (record { nodes = nodes.0; outputs = outputs } ≡ opened) =
      map_some (λ outputs. record { nodes = nodes.0; outputs = outputs }) (all_of (map (inner_read kind path given k) (items_after way n turns b))) opened nodes.2 in
      sym (ap (λ x. length x.outputs) outputs.2)
      ∙ (all_long (inner_read kind path given k) (items_after way n turns b) outputs.0 outputs.1
      ∙ (length-map (range_with_len 0 (length b.sockets)) (λ i. plain_read (at_item way n turns i)) ∙ length-range_with_len 0 (length b.sockets)))

  pub zone_long : (b : Body) (opened : Opened Kind V) → zone_inside kind path ≡ Some b → opened_within kind path given k turns ≡ Some opened → length opened.outputs ≡ length b.sockets
  zone_long b opened inside e =
      let body : option_and_then (opened_at kind path given k turns b) (place_by the_tree path) ≡ Some opened = sym (ap (option_and_then (λ c. option_and_then (opened_at kind path given k turns c) (place_by the_tree path))) inside) ∙ e in
      let place : (p : Way × ℕ) × (place_by the_tree path ≡ Some p) × (opened_at kind path given k turns b p ≡ Some opened) = then_some (opened_at kind path given k turns b) (place_by the_tree path) opened body in
      place_long b place.0 opened place.2
