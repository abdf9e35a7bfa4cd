-- The parts that elements grow to are those of a mesh, which is the mesh of the elements.
use Rattle.std.proofs.Common.{◌≡◌, ◌≢◌, ℕ, zero, suc, ◌+◌, ◌-◌, ◌<◌, ◌≤◌, Bool, true, false, ◌&&◌, nat_le, AllPairs, List, [], ◌∷◌, ◌++◌, length, map, flat_map, get_or, sum, refl, sym, ap, ◌∙◌, subst, arith, length-append, zero-add}
use Rattle.std.proofs.lemmas.List.Sums.{sum_by-cons}
use Rattle.std.proofs.lemmas.Bool.Decides.{nat_tests}
use Rattle.gn_plain.specs.Edges.{Edge, edges_around, first_seen}
use Rattle.gn_plain.specs.Topology.{Topology, IsValid, IsNumbered, IsJoined, RiseTo, edge_of, edge_at, vertices_of, faces_of, shape_of}
use Rattle.gn_plain.proofs.EdgeLemmas.{first_seen-fold}
use Rattle.gn_elements.specs.Read.{Element, points_of, corners, most}
use Rattle.gn_elements.specs.Read as read
use Rattle.gn_elements.specs.Growing.{Growing, none_yet, fits}
use Rattle.gn_spelled.proofs.Numbers.{number_in, is_in}
use Rattle.gn_spelled.proofs.Closed.{grow, faces_in, edges_among, ends, numbers_of, grow-points, grow-edges, grow-corner_points, grow-faces, grow-corner_edges}
use Rattle.gn_spelled.proofs.Each.{Each, Pairs, each-append, each-more, each-map, each-unmap, all_from_each, all_from_pairs, pairs-unmap}
use Rattle.gn_spelled.proofs.Faces.{paired, length-corners, faces_again, vertices_again, second_of}
use Rattle.gn_spelled.proofs.Good.{Good, GoodFace, Proper, proper_all, each-first_seen, pairs-first_seen, found, all_in, each-face, good_faces, vertices_below, pairs-all_differ}

abbrev pub grown : List Element → Growing
grown es = grow none_yet es

abbrev pub topology : Growing → List (ℕ × ℕ) → Topology
topology g keys = record { points = length g.points; edges = keys; corner_points = g.corner_points; corner_edges = g.corner_edges; faces = g.faces }

pub edges_seen : (es : List Element) → (grown es).edges ≡ first_seen (edges_among es)
edges_seen es = grow-edges none_yet es ∙ first_seen-fold (edges_among es)

-- ---- sizes

length-all : (faces : List (List ℕ)) (edges : List Edge) → length (flat_map (λ vs. vs) faces) ≡ sum (map length (map (corners edges) faces))
length-all [] edges = refl
length-all (vs ∷ faces) edges = rw (sum_by-cons (λ (k : ℕ). k) (length (corners edges vs)) (map length (map (corners edges) faces))) (omega (arith, length-append vs (flat_map (λ us. us) faces), length-all faces edges, length-corners edges vs))

length-ends : (n : ℕ) (faces : List (List ℕ)) (edges : List Edge) → length (ends n faces) ≡ length (map (corners edges) faces)
length-ends n [] edges = refl
length-ends n (vs ∷ faces) edges = omega (arith, length-ends (n + length vs) faces edges)

pub fits_within : (es : List Element) → fits (grown es) ≡ read.is_within (read.shape_of es)
fits_within es =
    let edges = first_seen (edges_among es) in
    let faces : length (grown es).faces - 1 ≡ length (map (corners edges) (faces_in es)) = omega (arith, ap length (grow-faces none_yet es), length-ends 0 (faces_in es) edges) in
    let corners : length (grown es).corner_points ≡ sum (map length (map (corners edges) (faces_in es))) = ap length (grow-corner_points none_yet es) ∙ length-all (faces_in es) edges in
    rw (grow-points none_yet es, edges_seen es, faces, corners) refl

-- ---- the mesh

pub mesh_again : (es : List Element) (keys : List (ℕ × ℕ)) → (grown es).edges ≡ map edge_of keys → shape_of (grown es).points (topology (grown es) keys) ≡ read.shape_of es
mesh_again es keys h =
    let edges = first_seen (edges_among es) in
    let numbers : (grown es).corner_edges ≡ numbers_of edges (faces_in es) = grow-corner_edges none_yet es ∙ ap (λ ks. numbers_of ks (faces_in es)) (edges_seen es) in
    let faces : faces_of (topology (grown es) keys) ≡ map (corners edges) (faces_in es) =
    rw (grow-faces none_yet es, grow-corner_points none_yet es, numbers) (faces_again edges (faces_in es)) in
    let seen : map edge_of keys ≡ edges = sym h ∙ edges_seen es in
    let points = grow-points none_yet es in
    λ i. record { points = points i; edges = seen i; faces = faces i }

-- ---- a valid mesh

rises : (n : ℕ) (m : ℕ) (faces : List (List ℕ)) → Each (GoodFace m) faces → RiseTo (n + length (flat_map (λ vs. vs) faces)) n (ends n faces)
rises n m [] h = omega arith
rises n m (vs ∷ faces) h =
    let long = h.0.2 in
    let rest = rises (n + length vs) m faces h.1 in
    let total : (n + length vs) + length (flat_map (λ us. us) faces) ≡ n + length (vs ++ flat_map (λ us. us) faces) = omega (arith, length-append vs (flat_map (λ us. us) faces)) in
    (omega arith, subst (λ (t : ℕ). RiseTo t (n + length vs) (ends (n + length vs) faces)) total rest)

length-numbers : (edges : List Edge) (faces : List (List ℕ)) → length (flat_map (λ vs. vs) faces) ≡ length (numbers_of edges faces)
length-numbers edges [] = refl
length-numbers edges (vs ∷ faces) =
    omega (arith, length-append vs (flat_map (λ us. us) faces), length-append (map (number_in edges) (edges_around vs)) (numbers_of edges faces), length-numbers edges faces, paired edges vs)

numbers_below : (edges : List Edge) (faces : List (List ℕ)) → Each (λ vs. Each (λ e. is_in edges e ≡ true) (edges_around vs)) faces → Each (λ k. k < length edges) (numbers_of edges faces)
numbers_below edges [] h = tt
numbers_below edges (vs ∷ faces) h =
    each-append (λ k. k < length edges) (map (number_in edges) (edges_around vs)) (numbers_of edges faces)
    (each-map (λ k. k < length edges) (number_in edges) (edges_around vs)
    (each-more (λ e. is_in edges e ≡ true) (λ e. number_in edges e < length edges) (λ e there. (found e edges (record { lesser = 0; greater = 0 }) there).0) (edges_around vs) h.0))
    (numbers_below edges faces h.1)

at_key : (keys : List (ℕ × ℕ)) (k : ℕ) → edge_at keys k ≡ get_or (map edge_of keys) k (edge_of (0, 0))
at_key [] k = refl
at_key (x ∷ keys) zero = refl
at_key (x ∷ keys) (suc k) = at_key keys k

same_edges : (keys : List (ℕ × ℕ)) (edges es : List Edge) → edges ≡ map edge_of keys → Each (λ e. is_in edges e ≡ true) es → map (edge_at keys) (map (number_in edges) es) ≡ es
same_edges keys edges [] h there = refl
same_edges keys edges (e ∷ es) h there =
    let here : edge_at keys (number_in edges e) ≡ e = at_key keys (number_in edges e) ∙ ap (λ xs. get_or xs (number_in edges e) (edge_of (0, 0))) (sym h) ∙ (found e edges (edge_of (0, 0)) there.0).1 in
    rw (here, same_edges keys edges es h there.1) refl

joined : (keys : List (ℕ × ℕ)) (edges : List Edge) (vs : List ℕ) → edges ≡ map edge_of keys → Each (λ e. is_in edges e ≡ true) (edges_around vs) → IsJoined keys (corners edges vs)
joined keys edges vs h there =
    second_of (edge_at keys) vs (map (number_in edges) (edges_around vs)) (paired edges vs)
    ∙ same_edges keys edges (edges_around vs) h there ∙ ap edges_around (sym (vertices_again edges vs))

length-mapped : {X Y : Type 0} (f : X → Y) (xs : List X) → length (map f xs) ≡ length xs
length-mapped f [] = refl
length-mapped f (x ∷ xs) = let rest = length-mapped f xs in omega arith

four : (a b c d : Bool) → (a && (b && (c && d))) ≡ true → (a ≡ true) × (b ≡ true) × (c ≡ true) × (d ≡ true)
four true true true d h = (refl, refl, refl, h)
four true true false d h = cc
four true false c d h = cc
four false b c d h = cc

at_most : (k m : ℕ) → nat_le k m ≡ true → k ≤ m
at_most k m h = grind (arith, nat_tests)

bounds : (g : Growing) → fits g ≡ true → (length g.points ≤ most) × (length g.edges ≤ most) × (length g.faces - 1 ≤ most) × (length g.corner_points ≤ most)
bounds g h =
    let f = four (nat_le (length g.points) most) (nat_le (length g.edges) most) (nat_le (length g.faces - 1) most) (nat_le (length g.corner_points) most) h in
    (at_most (length g.points) most f.0, at_most (length g.edges) most f.1, at_most (length g.faces - 1) most f.2, at_most (length g.corner_points) most f.3)

module _ (es : List Element) (keys : List (ℕ × ℕ)) (h : (grown es).edges ≡ map edge_of keys) (good : Each (Good (length (flat_map points_of es))) es) where
  n : ℕ
  n = length (flat_map points_of es)

  edges : List Edge
  edges = first_seen (edges_among es)

  seen : edges ≡ map edge_of keys
  unfolding edges
  seen = sym (edges_seen es) ∙ h

  points : length (grown es).points ≡ n
  unfolding n
  points = ap length (grow-points none_yet es)

  good_all : Each (GoodFace n) (faces_in es)
  unfolding n
  good_all = good_faces (length (flat_map points_of es)) es good

  numbers : (grown es).corner_edges ≡ numbers_of edges (faces_in es)
  unfolding edges
  numbers = grow-corner_edges none_yet es ∙ ap (λ ks. numbers_of ks (faces_in es)) (edges_seen es)

  faces : faces_of (topology (grown es) keys) ≡ map (corners edges) (faces_in es)
  faces = rw (grow-faces none_yet es, grow-corner_points none_yet es, numbers) (faces_again edges (faces_in es))

  proper : Each (Proper n) (map edge_of keys)
  unfolding n edges
  proper = subst (Each (Proper n)) seen (each-first_seen (Proper n) (edges_among es) (proper_all n es good))

  there : Each (λ vs. Each (λ e. is_in edges e ≡ true) (edges_around vs)) (faces_in es)
  unfolding edges
  there = each-face (λ e. is_in edges e ≡ true) es (subst (λ (ks : List Edge). Each (λ e. is_in ks e ≡ true) (edges_among es)) (first_seen-fold (edges_among es)) (all_in [] (edges_among es)))

  counted : length edges ≡ length keys
  counted = ap length seen ∙ length-mapped edge_of keys

  differ_at : (vs : List ℕ) → GoodFace n vs → AllPairs (λ a b. a ≢ b) (vertices_of (corners edges vs))
  differ_at vs g = subst (λ (us : List ℕ). AllPairs (λ a b. a ≢ b) us) (sym (vertices_again edges vs)) (all_from_pairs vs (pairs-all_differ vs g.1))

  pub valid : IsValid (topology (grown es) keys)
  valid = record {
    lesser_first = all_from_each (λ e. e.0 < e.1) keys (each-unmap (λ e. e.lesser < e.greater) edge_of keys (each-more (Proper n) (λ e. e.lesser < e.greater) (λ e p. p.0) (map edge_of keys) proper));
    edges_within = all_from_each (λ e. e.1 < length (grown es).points) keys (each-unmap (λ e. e.greater < length (grown es).points) edge_of keys (each-more (Proper n) (λ e. e.greater < length (grown es).points) (λ e p. rw points p.1) (map edge_of keys) proper));
    edges_differ = all_from_pairs keys (pairs-unmap edge_of keys (subst Pairs (seen_of) (pairs-first_seen (edges_among es))));
    paired = ap length (grow-corner_points none_yet es) ∙ length-numbers edges (faces_in es) ∙ sym (ap length numbers);
    corner_points_within = all_from_each (λ v. v < length (grown es).points) (grown es).corner_points (rw (points, grow-corner_points none_yet es) (vertices_below n (faces_in es) good_all));
    corner_edges_within = all_from_each (λ k. k < length keys) (grown es).corner_edges (rw (numbers, ← counted) (numbers_below edges (faces_in es) there));
    offsets = rw (grow-faces none_yet es, grow-corner_points none_yet es) (refl, rw zero-add at (rises 0 n (faces_in es) good_all));
    vertices_differ = rw faces (all_from_each (λ f. AllPairs (λ a b. a ≢ b) (vertices_of f)) (map (corners edges) (faces_in es)) (each-map (λ f. AllPairs (λ a b. a ≢ b) (vertices_of f)) (corners edges) (faces_in es) (each-more (GoodFace n) (λ vs. AllPairs (λ a b. a ≢ b) (vertices_of (corners edges vs))) differ_at (faces_in es) good_all)));
    joined = rw faces (all_from_each (IsJoined keys) (map (corners edges) (faces_in es)) (each-map (IsJoined keys) (corners edges) (faces_in es) (each-more (λ vs. Each (λ e. is_in edges e ≡ true) (edges_around vs)) (λ vs. IsJoined keys (corners edges vs)) (λ vs t. joined keys edges vs seen t) (faces_in es) there)));
  }
    where
      seen_of : first_seen (edges_among es) ≡ map edge_of keys
      seen_of = sym (edges_seen es) ∙ h

  pub numbered : fits (grown es) ≡ true → IsNumbered (topology (grown es) keys)
  numbered f =
      let b = bounds (grown es) f in
      let pair = valid.paired in
      let edges = ap length h ∙ length-mapped edge_of keys in
      record {
        points = omega (arith, b.0);
        edges = omega (arith, b.1);
        corner_points = omega (arith, b.3);
        corner_edges = omega (arith, b.3);
        faces = omega (arith, b.2);
      }
