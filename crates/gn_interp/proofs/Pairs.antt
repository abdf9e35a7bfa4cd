-- The pairs that edges give, and those that corners give.
use Rattle.std.proofs.Common.{◌≡◌, ◌≢◌, ◌⊎◌, ℕ, suc, ◌+◌, ◌<◌, List, [], ◌∷◌, ◌++◌, length, map, flat_map, drop, get_or, refl, sym, ap, ◌∙◌, drop-cons}
use Rattle.std.proofs.lemmas.List.Concat.{flat_map_single}
use Rattle.gn_value.specs.declared.value.Place.{Place}
use Rattle.gn_value.specs.declared.value.Place.TheVariants.{Point, Edge, Face, Corner, Cloud, Instance}
use Rattle.gn_plain.specs.Geometry.{Shape}
use Rattle.gn_plain.specs.Topology.{edge_of}
use Rattle.gn_plain.specs.Interpolation.{Taking, Touching, along_edges, corners, takings}
use Rattle.gn_interp.specs.Takings.{corner_takings}

-- the edge of a number, and the others behind it
pub along_step : (edges : List (ℕ × ℕ)) (k : ℕ) (d : ℕ × ℕ) → k < length edges
    → along_edges k (map edge_of (drop k edges)) ≡ (k, (get_or edges k d).0) ∷ (k, (get_or edges k d).1) ∷ along_edges (suc k) (map edge_of (drop (suc k) edges))
along_step edges k d within = ap (λ es. along_edges k (map edge_of es)) (drop-cons edges k d within)

no_pairs : (cs : List Touching) → flat_map (λ (c : Touching). let ts : List Taking = [] in ts) cs ≡ []
no_pairs [] = refl
no_pairs (c ∷ cs) = no_pairs cs

-- between other places than vertices and edges the pairs are those of corners
pub by_corners : (from to : Place) (s : Shape) → ((from ≡ Point) × (to ≡ Edge) → ⊥) → ((from ≡ Edge) × (to ≡ Point) → ⊥) → flat_map (corner_takings from to) (corners s) ≡ takings from to s
by_corners Point Edge s a b = absurd (a (refl, refl))
by_corners Edge Point s a b = absurd (b (refl, refl))
by_corners Point Face s a b = flat_map_single (λ (c : Touching). (c.face, c.vertex)) (corners s)
by_corners Point Corner s a b = flat_map_single (λ (c : Touching). (c.corner, c.vertex)) (corners s)
by_corners Edge Face s a b = flat_map_single (λ (c : Touching). (c.face, c.edge)) (corners s)
by_corners Edge Corner s a b = refl
by_corners Face Point s a b = flat_map_single (λ (c : Touching). (c.vertex, c.face)) (corners s)
by_corners Face Edge s a b = flat_map_single (λ (c : Touching). (c.edge, c.face)) (corners s)
by_corners Face Corner s a b = flat_map_single (λ (c : Touching). (c.corner, c.face)) (corners s)
by_corners Corner Point s a b = flat_map_single (λ (c : Touching). (c.vertex, c.corner)) (corners s)
by_corners Corner Edge s a b = refl
by_corners Corner Face s a b = flat_map_single (λ (c : Touching). (c.face, c.corner)) (corners s)
by_corners Point Point s a b = no_pairs (corners s)
by_corners Point Cloud s a b = no_pairs (corners s)
by_corners Point Instance s a b = no_pairs (corners s)
by_corners Edge Edge s a b = no_pairs (corners s)
by_corners Edge Cloud s a b = no_pairs (corners s)
by_corners Edge Instance s a b = no_pairs (corners s)
by_corners Face Face s a b = no_pairs (corners s)
by_corners Face Cloud s a b = no_pairs (corners s)
by_corners Face Instance s a b = no_pairs (corners s)
by_corners Corner Corner s a b = no_pairs (corners s)
by_corners Corner Cloud s a b = no_pairs (corners s)
by_corners Corner Instance s a b = no_pairs (corners s)
by_corners Cloud to s a b = elim to as (λ p. flat_map (corner_takings Cloud p) (corners s) ≡ takings Cloud p s) [ Point ↦ no_pairs (corners s) | Edge ↦ no_pairs (corners s) | Face ↦ no_pairs (corners s) | Corner ↦ no_pairs (corners s) | Cloud ↦ no_pairs (corners s) | Instance ↦ no_pairs (corners s) ]
by_corners Instance to s a b = elim to as (λ p. flat_map (corner_takings Instance p) (corners s) ≡ takings Instance p s) [ Point ↦ no_pairs (corners s) | Edge ↦ no_pairs (corners s) | Face ↦ no_pairs (corners s) | Corner ↦ no_pairs (corners s) | Cloud ↦ no_pairs (corners s) | Instance ↦ no_pairs (corners s) ]
