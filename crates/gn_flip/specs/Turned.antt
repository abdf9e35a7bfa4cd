-- The corners of a mesh in which faces are turned over.
use Rattle.std.specs.Prelude.{ℕ, suc, ◌+◌, Bool, false, List, [], ◌∷◌, ◌++◌, length, reverse, take, drop, slice_index_or, if◌then◌else◌}
use Rattle.std.specs.List.{range_with_len}
use Rattle.gn_plain.specs.Geometry.{Corner}
use Rattle.gn_plain.specs.Topology.{Topology}

-- is a face one of those that a list of truths selects?
abbrev pub is_chosen : List Bool → ℕ → Bool
is_chosen selected k = slice_index_or selected k false

-- other vertices and edges at the corners
abbrev pub with_corners : Topology → List ℕ → List ℕ → Topology
with_corners t corner_points corner_edges = record { points = t.points; edges = t.edges; corner_points = corner_points; corner_edges = corner_edges; faces = t.faces }

-- the corners of a face in the order in which their vertices come: where it is turned over the first stays, and the others come in the opposite order
abbrev pub turned_vertices : Bool → List ℕ → List ℕ
turned_vertices turned corners = if turned then take 1 corners ++ reverse (drop 1 corners) else corners

-- the corners of a face in the order in which their edges come: all in the opposite order where it is turned over, so that each edge leads to the next vertex
abbrev pub turned_edges : Bool → List ℕ → List ℕ
turned_edges turned corners = if turned then reverse corners else corners

-- those of faces from a number on, the first corner of which has a number
abbrev pub edge_order : (ℕ → Bool) → ℕ → ℕ → List (List Corner) → List ℕ
edge_order is_selected k first [] = []
edge_order is_selected k first (face ∷ faces) = turned_edges (is_selected k) (range_with_len first (length face)) ++ edge_order is_selected (suc k) (first + length face) faces
