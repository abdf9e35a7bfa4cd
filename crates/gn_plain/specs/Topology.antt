-- The edges, corners and faces of a mesh, kept as lists of numbers from 0.
use Rattle.std.specs.Prelude.{◌≡◌, ◌≢◌, ℕ, ◌+◌, ◌<◌, ◌≤◌, ◌^◌, List, [], ◌∷◌, length, map, All, AllPairs, slice_range, slice_index_or}
use Rattle.std.specs.List.{zip}
use Rattle.gn_value.specs.declared.vector.V3.{V3}
use Rattle.gn_plain.specs.Edges.{Edge, edges_around}
use Rattle.gn_plain.specs.Geometry.{Corner, Shape}

-- how many vertices there are, the two vertices of each edge, the vertex and the edge of each corner, and where the corners of each face begin, with the number of corners at last
pub record Topology : Type 0 where
  pub points : ℕ
  pub edges : List (ℕ × ℕ)
  pub corner_points : List ℕ
  pub corner_edges : List ℕ
  pub faces : List ℕ

-- ---- the shape that it stands for

abbrev pub edge_of : ℕ × ℕ → Edge
edge_of e = record { lesser = e.0; greater = e.1 }

abbrev pub corner_of : ℕ × ℕ → Corner
corner_of c = record { vertex = c.0; edge = c.1 }

abbrev pub corners_of : Topology → List Corner
corners_of t = map corner_of (zip t.corner_points t.corner_edges)

-- the parts of a list from each offset to the next
abbrev pub parts_between : {X : Type 0} → List ℕ → List X → List (List X)
parts_between (a ∷ b ∷ offsets) xs = slice_range xs a b ∷ parts_between (b ∷ offsets) xs
parts_between _ xs = []

abbrev pub faces_of : Topology → List (List Corner)
faces_of t = parts_between t.faces (corners_of t)

-- the shape with vertices at these positions
abbrev pub shape_of : List V3 → Topology → Shape
shape_of points t = record { points = points; edges = map edge_of t.edges; faces = faces_of t }

-- ---- where it stands for one

-- offsets behind `from`, each at least 3 above the one before, and the last at `to`
abbrev pub RiseTo : ℕ → ℕ → List ℕ → Type 0
RiseTo to from [] = from ≡ to
RiseTo to from (next ∷ offsets) = (from + 3 ≤ next) × RiseTo to next offsets

-- offsets that rise from 0 by at least 3 to a count
abbrev pub AreOffsets : ℕ → List ℕ → Type 0
AreOffsets count [] = ⊥
AreOffsets count (first ∷ offsets) = (first ≡ 0) × RiseTo count first offsets

abbrev pub vertices_of : List Corner → List ℕ
vertices_of face = map (λ c. c.vertex) face

-- the edge of a number
abbrev pub edge_at : List (ℕ × ℕ) → ℕ → Edge
edge_at edges k = edge_of (slice_index_or edges k (0, 0))

-- the edge of each corner joins its vertex and that of the next corner
abbrev pub IsJoined : List (ℕ × ℕ) → List Corner → Type 0
IsJoined edges face = map (λ c. edge_at edges c.edge) face ≡ edges_around (vertices_of face)

-- numbers are in range, an edge is there once with its lesser vertex first, a face has at least three corners at different vertices, and the edges of its corners go around it
pub record IsValid (t : Topology) : Type 0 where
  pub lesser_first : All (λ e. e.0 < e.1) t.edges
  pub edges_within : All (λ e. e.1 < t.points) t.edges
  pub edges_differ : AllPairs (λ a b. a ≢ b) t.edges
  pub paired : length t.corner_points ≡ length t.corner_edges
  pub corner_points_within : All (λ v. v < t.points) t.corner_points
  pub corner_edges_within : All (λ k. k < length t.edges) t.corner_edges
  pub offsets : AreOffsets (length t.corner_points) t.faces
  pub vertices_differ : All (λ f. AllPairs (λ a b. a ≢ b) (vertices_of f)) (faces_of t)
  pub joined : All (IsJoined t.edges) (faces_of t)

-- each list has fewer than 2^32 members, so that numbers of 32 bits name them
pub record IsNumbered (t : Topology) : Type 0 where
  pub points : t.points < 2 ^ 32
  pub edges : length t.edges < 2 ^ 32
  pub corner_points : length t.corner_points < 2 ^ 32
  pub corner_edges : length t.corner_edges < 2 ^ 32
  pub faces : length t.faces < 2 ^ 32
