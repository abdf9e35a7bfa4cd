-- A face that is turned over.
use Rattle.std.proofs.Common.{◌≡◌, ◌≢◌, ◌∙◌, ℕ, ◌<◌, List, [], ◌∷◌, ◌++◌, cond, inl, inr, length, map, refl, sym, ap, ap₂, subst, arith}
use Rattle.std.specs.List.{AllPairs}
use Rattle.std.specs.Prelude.{reverse}
use Rattle.std.proofs.lemmas.Bool.{cases_lt, lt-ltb, le-ltb}
use Rattle.std.proofs.lemmas.List.{append_assoc, length-map, length-reverse, reverse-append}
use Rattle.std.proofs.lemmas.List.Kept.{AllPairs-cons}
use Rattle.gn_plain.specs.Edges.{edge_between, edges_along, edges_around}
use Rattle.gn_plain.specs.Geometry.{Corner}
use Rattle.gn_plain.specs.Topology.{IsJoined, edge_at, vertices_of}
use Rattle.gn_interp.proofs.Corners.{corners_of}
use Rattle.gn_geometry_rows.specs.Flips.{turned_over}
use Rattle.gn_flip.proofs.Lists.{reverse_cons, map_reverse, all_reverse, pairs_reverse, pairs_head, pairs_tail}

-- ---- edges in the opposite order

both_ways : (a b : ℕ) → a < b → edge_between a b ≡ edge_between b a
both_ways a b less =
    ap (λ t. cond t (record { lesser = b; greater = a }) (record { lesser = a; greater = b })) (le-ltb b a (omega (arith, less)))
    ∙ sym (ap (λ t. cond t (record { lesser = a; greater = b }) (record { lesser = b; greater = a })) (lt-ltb a b less))

between_turned : (a b : ℕ) → edge_between a b ≡ edge_between b a
between_turned a b = elim (cases_lt a b) [
  | inl less ↦ both_ways a b less
  | inr more ↦ elim (cases_lt b a) [
    | inl less ↦ sym (both_ways b a less)
    | inr same ↦ (let e : a ≡ b = omega (arith, more, same) in ap₂ edge_between e (sym e))
  ]
]

along_push : (xs : List ℕ) (x y : ℕ) → edges_along (xs ++ x ∷ y ∷ []) ≡ edges_along (xs ++ x ∷ []) ++ edge_between x y ∷ []
along_push [] x y = refl
along_push (a ∷ []) x y = refl
along_push (a ∷ b ∷ xs) x y = ap (λ l. edge_between a b ∷ l) (along_push (b ∷ xs) x y)

along_turned : (vs : List ℕ) → edges_along (reverse vs) ≡ reverse (edges_along vs)
along_turned [] = refl
along_turned (a ∷ []) = refl
along_turned (a ∷ b ∷ vs) =
    let two : reverse (a ∷ b ∷ vs) ≡ reverse vs ++ b ∷ a ∷ [] = reverse_cons a (b ∷ vs) ∙ (ap (λ l. l ++ a ∷ []) (reverse_cons b vs) ∙ append_assoc (reverse vs) (b ∷ []) (a ∷ [])) in
    ap edges_along two
    ∙ (along_push (reverse vs) b a
    ∙ (ap₂ (λ l e. l ++ e ∷ []) (ap edges_along (sym (reverse_cons b vs)) ∙ along_turned (b ∷ vs)) (between_turned b a)
    ∙ sym (reverse_cons (edge_between a b) (edges_along (b ∷ vs)))))

around_turned : (a : ℕ) (vs : List ℕ) → edges_around (a ∷ reverse vs) ≡ reverse (edges_around (a ∷ vs))
around_turned a vs =
    let path : reverse ((a ∷ vs) ++ a ∷ []) ≡ (a ∷ reverse vs) ++ a ∷ [] = reverse_cons a (vs ++ a ∷ []) ∙ ap (λ l. l ++ a ∷ []) (reverse-append vs (a ∷ [])) in
    ap edges_along (sym path) ∙ along_turned ((a ∷ vs) ++ a ∷ [])

-- ---- the vertices and the edges of a face

pub corner_vertices : (vs ks : List ℕ) → length vs ≡ length ks → map (λ (c : Corner). c.vertex) (corners_of vs ks) ≡ vs
corner_vertices [] ks e = refl
corner_vertices (v ∷ vs) [] e = absurd (omega arith)
corner_vertices (v ∷ vs) (k ∷ ks) e = ap (λ l. v ∷ l) (corner_vertices vs ks (omega (arith, e)))

pub corner_edges : (vs ks : List ℕ) → length vs ≡ length ks → map (λ (c : Corner). c.edge) (corners_of vs ks) ≡ ks
corner_edges [] [] e = refl
corner_edges [] (k ∷ ks) e = absurd (omega arith)
corner_edges (v ∷ vs) [] e = absurd (omega arith)
corner_edges (v ∷ vs) (k ∷ ks) e = ap (λ l. k ∷ l) (corner_edges vs ks (omega (arith, e)))

abbrev edges_of : List Corner → List ℕ
edges_of face = map (λ c. c.edge) face

as_many : (c : Corner) (cs : List Corner) → length (c.vertex ∷ reverse (vertices_of cs)) ≡ length (reverse (edges_of (c ∷ cs)))
as_many c cs = omega (arith, length-reverse (vertices_of cs), length-map cs (λ (d : Corner). d.vertex), length-reverse (edges_of (c ∷ cs)), length-map (c ∷ cs) (λ (d : Corner). d.edge))

vertices_turned : (c : Corner) (cs : List Corner) → vertices_of (turned_over (c ∷ cs)) ≡ c.vertex ∷ reverse (vertices_of cs)
vertices_turned c cs = corner_vertices (c.vertex ∷ reverse (vertices_of cs)) (reverse (edges_of (c ∷ cs))) (as_many c cs)

edges_turned : (c : Corner) (cs : List Corner) → edges_of (turned_over (c ∷ cs)) ≡ reverse (edges_of (c ∷ cs))
edges_turned c cs = corner_edges (c.vertex ∷ reverse (vertices_of cs)) (reverse (edges_of (c ∷ cs))) (as_many c cs)

-- the face of these lists
pub turned_corners : (v k : ℕ) (vs ks : List ℕ) → length vs ≡ length ks → turned_over (corners_of (v ∷ vs) (k ∷ ks)) ≡ corners_of (v ∷ reverse vs) (reverse (k ∷ ks))
turned_corners v k vs ks e =
    ap₂ (λ us js. corners_of (v ∷ reverse us) (reverse (k ∷ js))) (corner_vertices vs ks e) (corner_edges vs ks e)

-- ---- it is a face of the mesh

abbrev Differ : ℕ → ℕ → Type 0
Differ a b = a ≢ b

pub turned_differ : (face : List Corner) → AllPairs (λ a b. a ≢ b) (vertices_of face) → AllPairs (λ a b. a ≢ b) (vertices_of (turned_over face))
turned_differ [] all = all
turned_differ (c ∷ cs) all =
    let others = vertices_of cs in
    subst (AllPairs (λ a b. a ≢ b)) (sym (vertices_turned c cs))
    (AllPairs-cons (λ a b. a ≢ b) c.vertex (reverse others)
    (all_reverse (λ b. c.vertex ≢ b) others (pairs_head (λ a b. a ≢ b) c.vertex others all))
    (pairs_reverse (λ a b. a ≢ b) (λ a b differ same. differ (sym same)) others (pairs_tail (λ a b. a ≢ b) c.vertex others all)))

by_numbers : (edges : List (ℕ × ℕ)) (face : List Corner) → map (λ c. edge_at edges c.edge) face ≡ map (edge_at edges) (edges_of face)
by_numbers edges [] = refl
by_numbers edges (c ∷ cs) = ap (λ l. edge_at edges c.edge ∷ l) (by_numbers edges cs)

pub turned_joined : (edges : List (ℕ × ℕ)) (face : List Corner) → IsJoined edges face → IsJoined edges (turned_over face)
turned_joined edges [] joined = joined
turned_joined edges (c ∷ cs) joined =
    let face = c ∷ cs in
    by_numbers edges (turned_over face)
    ∙ (ap (map (edge_at edges)) (edges_turned c cs)
    ∙ (map_reverse (edge_at edges) (edges_of face)
    ∙ (ap reverse (sym (by_numbers edges face) ∙ joined)
    ∙ (sym (around_turned c.vertex (vertices_of cs))
    ∙ ap edges_around (sym (vertices_turned c cs))))))
