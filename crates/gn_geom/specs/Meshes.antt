-- What clauses see of a mesh, and the plain shape that it stands for.
use Rattle.std.specs.Prelude.{◌≡◌, ℕ, ◌<◌, ◌==◌, ◌^◌, Bool, not, List, length, slice_index_or}
use Rattle.std.specs.List.{list_any}
use Rattle.gn_value.specs.declared.vector.V3.{V3}
use Rattle.gn_shared.specs.Arrays.{ArrayView}
use Rattle.gn_plain.specs.Geometry as geometry
use Rattle.gn_plain.specs.Topology.{Topology, IsValid, IsNumbered, shape_of}

-- the arrays of a mesh, each with its handle: where the vertices are, the edges, where the corners of each face begin, the vertex and the edge of each corner, and for each edge whether no corner has it
pub record MeshArrays : Type 0 where
  pub points : ArrayView V3
  pub edges : ArrayView (ℕ × ℕ)
  pub faces : ArrayView ℕ
  pub corner_points : ArrayView ℕ
  pub corner_edges : ArrayView ℕ
  pub loose : ArrayView Bool

-- the topology of that number of vertices and of lists
abbrev pub topology_with : ℕ → List (ℕ × ℕ) → List ℕ → List ℕ → List ℕ → Topology
topology_with points edges faces corner_points corner_edges =
    record { points = points; edges = edges; corner_points = corner_points; corner_edges = corner_edges; faces = faces }

-- the topology of lists
abbrev pub topology : List V3 → List (ℕ × ℕ) → List ℕ → List ℕ → List ℕ → Topology
topology points edges faces corner_points corner_edges =
    topology_with (length points) edges faces corner_points corner_edges

abbrev pub topology_of : MeshArrays → Topology
topology_of m = topology m.points.items m.edges.items m.faces.items m.corner_points.items m.corner_edges.items

-- the mesh has that topology
abbrev pub HasTopology : Topology → MeshArrays → Type 0
HasTopology t m = topology_of m ≡ t

-- the plain shape, without the handles
abbrev pub plain_of : MeshArrays → geometry.Shape
plain_of m = shape_of m.points.items (topology_of m)

-- no corner has the edge of this number
abbrev pub is_unused : List ℕ → ℕ → Bool
is_unused corner_edges k = not (list_any (λ e. e == k) corner_edges)

-- for each edge whether no corner has it
abbrev pub AreLoose : List Bool → ℕ → List ℕ → Type 0
AreLoose loose count corner_edges =
    (length loose ≡ count) × ((k : ℕ) (d : Bool) → k < count → slice_index_or loose k d ≡ is_unused corner_edges k)

-- what is true of each mesh
pub record IsMesh (m : MeshArrays) : Type 0 where
  pub valid : IsValid (topology_of m)
  pub numbered : IsNumbered (topology_of m)
  pub loose : AreLoose m.loose.items (length m.edges.items) m.corner_edges.items

-- each handle has all parts
pub record IsSole (m : MeshArrays) : Type 0 where
  pub points : m.points.parts ≡ 2 ^ 62
  pub edges : m.edges.parts ≡ 2 ^ 62
  pub faces : m.faces.parts ≡ 2 ^ 62
  pub corner_points : m.corner_points.parts ≡ 2 ^ 62
  pub corner_edges : m.corner_edges.parts ≡ 2 ^ 62
  pub loose : m.loose.parts ≡ 2 ^ 62

-- the vertices are elsewhere, in an array of which the mesh is the only user, and nothing else is new
pub record Moves (points : List V3) (old new : MeshArrays) : Type 0 where
  pub items : new.points.items ≡ points
  pub sole : new.points.parts ≡ 2 ^ 62
  pub edges : new.edges ≡ old.edges
  pub faces : new.faces ≡ old.faces
  pub corner_points : new.corner_points ≡ old.corner_points
  pub corner_edges : new.corner_edges ≡ old.corner_edges
  pub loose : new.loose ≡ old.loose
