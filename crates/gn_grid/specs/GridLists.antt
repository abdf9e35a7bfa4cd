-- The lists of a mesh that is a grid.
use Rattle.std.specs.Prelude.{ℕ, ℤ, pos, suc, ◌+◌, ◌-◌, ◌*◌, List, [], ◌∷◌, ◌++◌, map, flat_map}
use Rattle.std.specs.List.{range_with_len}
use Rattle.gn_value.specs.Values.{v3}
use Rattle.gn_value.specs.declared.vector.V3.{V3}
use Rattle.gn_plain.specs.Edges.{Edge}
use Rattle.gn_plain.specs.Geometry.{Corner}
use Rattle.gn_plain.specs.Topology.{Topology, vertices_of}
use Rattle.gn_shapes.specs.Grids.{cells, up_edge, across_edge, face_at}

abbrev pub ends : Edge → ℕ × ℕ
ends e = (e.lesser, e.greater)

abbrev pub edges_of_corners : List Corner → List ℕ
edges_of_corners face = map (λ c. c.edge) face

module _ (columns rows : ℕ) where
  abbrev pub face_cells : List (ℕ × ℕ)
  face_cells = cells (columns - 1) (rows - 1)

  abbrev pub up_pair : ℕ × ℕ → ℕ × ℕ
  up_pair c = ends (up_edge columns rows c)

  abbrev pub across_pair : ℕ × ℕ → ℕ × ℕ
  across_pair c = ends (across_edge columns rows c)

  abbrev pub face_vertices : ℕ × ℕ → List ℕ
  face_vertices c = vertices_of (face_at columns rows c)

  abbrev pub face_edges : ℕ × ℕ → List ℕ
  face_edges c = edges_of_corners (face_at columns rows c)

  abbrev pub edge_pairs : List (ℕ × ℕ)
  edge_pairs = map up_pair (cells columns (rows - 1)) ++ map across_pair (cells (columns - 1) rows)

  -- a face has four corners
  abbrev pub offsets : List ℕ
  offsets = map (λ k. 4 * k) (range_with_len 0 (suc ((columns - 1) * (rows - 1))))

  abbrev pub grid_lists : Topology
  grid_lists = record {
    points = columns * rows;
    edges = edge_pairs;
    corner_points = flat_map face_vertices face_cells;
    corner_edges = flat_map face_edges face_cells;
    faces = offsets;
  }

-- ---- one column of them, by the number that is first in it

abbrev pub point_in : ℤ → ℤ → V3
point_in x y = v3 x y (pos 0)

-- from a vertex to the next in its column
abbrev pub up_from_first : ℕ → ℕ → ℕ × ℕ
up_from_first first y = (first + y, first + y + 1)

-- from a vertex to the one beside it in the next column
abbrev pub across_from_first : ℕ → ℕ → ℕ → ℕ × ℕ
across_from_first first next y = (first + y, next + y)

abbrev pub four_vertices : ℕ → ℕ → ℕ → List ℕ
four_vertices first next y = (first + y) ∷ (next + y) ∷ (next + y + 1) ∷ (first + y + 1) ∷ []

-- the edges below, at the right, above and at the left
abbrev pub four_edges : ℕ → ℕ → ℕ → ℕ → List ℕ
four_edges below right left y = (below + y) ∷ (right + y) ∷ (below + y + 1) ∷ (left + y) ∷ []
