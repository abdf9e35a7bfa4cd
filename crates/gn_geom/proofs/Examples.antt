-- Topologies that are and that aren't those of a mesh.
use Rattle.std.proofs.Common.{◌≡◌, ◌≢◌, ℕ, ◌<◌, AllPairs, List, [], ◌∷◌, refl, ap, subst, arith, false, slice_index_or, nat_eq}
use Rattle.std.proofs.lemmas.List.Elements.{All-from_recursion, All-nil}
use Rattle.std.proofs.lemmas.Bool.Decides.{nat_tests}
use Rattle.std.proofs.lemmas.List.Kept.{AllPairs-cons}
use Rattle.gn_plain.specs.Edges.{Edge}
use Rattle.gn_plain.specs.Topology.{Topology, IsValid, IsJoined, vertices_of, faces_of}

-- one face of three corners
abbrev face_with : List (ℕ × ℕ) → List ℕ → Topology
face_with edges around = record {
  points = 3;
  edges = edges;
  corner_points = 0 ∷ 1 ∷ 2 ∷ [];
  corner_edges = around;
  faces = 0 ∷ 3 ∷ [];
}

abbrev triangle : Topology
triangle = face_with ((0, 1) ∷ (1, 2) ∷ (0, 2) ∷ []) (0 ∷ 1 ∷ 2 ∷ [])

three_differ : {X : Type 0} (a b c : X) → ¬ (a ≡ b) → ¬ (a ≡ c) → ¬ (b ≡ c) → AllPairs (λ a b. a ≢ b) (a ∷ b ∷ c ∷ [])
three_differ {X} a b c ab ac bc =
    let Differ : X → X → Type 0 = λ x y. ¬ (x ≡ y) in
    let last = AllPairs-cons Differ c [] (All-nil (Differ c)) (λ i j d lt within. absurd (omega (arith, within))) in
    let two = AllPairs-cons Differ b (c ∷ []) (All-from_recursion (Differ b) (c ∷ []) (bc, tt)) last in
    AllPairs-cons Differ a (b ∷ c ∷ []) (All-from_recursion (Differ a) (b ∷ c ∷ []) (ab, (ac, tt))) two

-- numbers that differ by their test
apart : (m n : ℕ) → nat_eq m n ≡ false → ¬ (m ≡ n)
apart m n test e = let same : nat_eq n n ≡ false = subst (λ k. nat_eq k n ≡ false) e test in absurd (grind (arith, nat_tests, same))

a_triangle : IsValid triangle
a_triangle = record {
  lesser_first = All-from_recursion (λ e. e.0 < e.1) triangle.edges (omega arith, (omega arith, (omega arith, tt)));
  edges_within = All-from_recursion (λ e. e.1 < 3) triangle.edges (omega arith, (omega arith, (omega arith, tt)));
  edges_differ = three_differ (0, 1) (1, 2) (0, 2) (λ e. apart 0 1 refl (ap (λ p. p.0) e)) (λ e. apart 1 2 refl (ap (λ p. p.1) e)) (λ e. apart 1 0 refl (ap (λ p. p.0) e));
  paired = refl;
  corner_points_within = All-from_recursion (λ v. v < 3) triangle.corner_points (omega arith, (omega arith, (omega arith, tt)));
  corner_edges_within = All-from_recursion (λ k. k < 3) triangle.corner_edges (omega arith, (omega arith, (omega arith, tt)));
  offsets = (refl, (omega arith, refl));
  vertices_differ = All-from_recursion (λ f. AllPairs (λ a b. a ≢ b) (vertices_of f)) (faces_of triangle) (three_differ 0 1 2 (apart 0 1 refl) (apart 0 2 refl) (apart 1 2 refl), tt);
  joined = All-from_recursion (IsJoined triangle.edges) (faces_of triangle) (refl, tt);
}

-- the second corner has the edge of the third
edges_in_another_order : ¬ IsValid (face_with ((0, 1) ∷ (1, 2) ∷ (0, 2) ∷ []) (0 ∷ 2 ∷ 1 ∷ []))
edges_in_another_order h =
    apart 0 1 refl (ap (λ (edges : List Edge). (slice_index_or edges 1 (record { lesser = 0; greater = 0 })).lesser) (h.joined 0 [] (omega arith)))

a_greater_vertex_first : ¬ IsValid (face_with ((0, 1) ∷ (2, 1) ∷ (0, 2) ∷ []) (0 ∷ 1 ∷ 2 ∷ []))
a_greater_vertex_first h = let less = h.lesser_first 1 (0, 0) (omega arith) in absurd (omega (arith, less))

an_edge_twice : ¬ IsValid (face_with ((0, 1) ∷ (1, 2) ∷ (0, 2) ∷ (0, 1) ∷ []) (0 ∷ 1 ∷ 2 ∷ []))
an_edge_twice h = h.edges_differ 0 3 (0, 0) (omega arith) (omega arith) refl
