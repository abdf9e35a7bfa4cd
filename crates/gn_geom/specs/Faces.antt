-- The faces of a mesh by the numbers of their vertices and of their edges.
use Rattle.std.specs.Prelude.{◌≡◌, ◌≢◌, ℕ, List, ◌∷◌, map, AllPairs, slice_range}
use Rattle.gn_plain.specs.Edges.{edges_around}
use Rattle.gn_plain.specs.Topology.{edge_at}

-- the edges of corners are those around the vertices
abbrev pub AreAround : List (ℕ × ℕ) → List ℕ → List ℕ → Type 0
AreAround edges vertices corner_edges = map (edge_at edges) corner_edges ≡ edges_around vertices

-- different vertices, and the edges around them
abbrev pub IsFace : List (ℕ × ℕ) → List ℕ → List ℕ → Type 0
IsFace edges vertices corner_edges = AllPairs (λ a b. a ≢ b) vertices × AreAround edges vertices corner_edges

-- each of the faces that begin at the offsets but the last
abbrev pub AreFaces : List (ℕ × ℕ) → List ℕ → List ℕ → List ℕ → Type 0
AreFaces edges (a ∷ b ∷ offsets) corner_points corner_edges =
    IsFace edges (slice_range corner_points a b) (slice_range corner_edges a b) × AreFaces edges (b ∷ offsets) corner_points corner_edges
AreFaces edges _ corner_points corner_edges = Unit {0}
