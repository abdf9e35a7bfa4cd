-- A grid of vertices in the plane of x and y about the origin, with a face between each four.
use Rattle.std.specs.Prelude.{ℕ, ◌+◌, ◌-◌, ◌*◌, ◌==◌, ℤ, pos, ◌-ℤ◌, ◌*ℤ◌, List, [], ◌∷◌, ◌++◌, map, flat_map, if◌then◌else◌}
use Rattle.std.specs.List.{range_with_len}
use Rattle.gn_value.specs.Arithmetic.{sat, floor_div}
use Rattle.gn_value.specs.Values.{v3}
use Rattle.gn_value.specs.declared.vector.V3.{V3}
use Rattle.gn_plain.specs.Edges.{Edge}
use Rattle.gn_plain.specs.Geometry.{Corner, Shape}

-- the coordinate of vertex i of some that share a side of a size evenly: rounded down from the exact one, and brought into range
abbrev pub along_side : ℤ → ℕ → ℕ → ℤ
along_side size count i = if count == 1 then pos 0 else sat (floor_div ((pos (2 * i) -ℤ pos (count - 1)) *ℤ size) (pos (2 * (count - 1))))

-- the pairs of a number below one count and a number below another, by the first and then by the second
abbrev pub cells : ℕ → ℕ → List (ℕ × ℕ)
cells columns rows = flat_map (λ x. map (λ y. (x, y)) (range_with_len 0 rows)) (range_with_len 0 columns)

-- the grid has vertices by x and then by y
module _ (columns rows : ℕ) where
  abbrev pub vertex_at : ℕ → ℕ → ℕ
  vertex_at x y = x * rows + y

  -- edges along y come first, then edges along x, each from its vertex with the lesser number
  abbrev pub up_from : ℕ → ℕ → ℕ
  up_from x y = x * (rows - 1) + y

  abbrev pub across_from : ℕ → ℕ → ℕ
  across_from x y = columns * (rows - 1) + (x * rows + y)

  abbrev pub up_edge : ℕ × ℕ → Edge
  up_edge c = record { lesser = vertex_at c.0 c.1; greater = vertex_at c.0 (c.1 + 1) }

  abbrev pub across_edge : ℕ × ℕ → Edge
  across_edge c = record { lesser = vertex_at c.0 c.1; greater = vertex_at (c.0 + 1) c.1 }

  -- along x, along y, and back
  abbrev pub face_at : ℕ × ℕ → List Corner
  face_at c =
      record { vertex = vertex_at c.0 c.1; edge = across_from c.0 c.1 }
      ∷ record { vertex = vertex_at (c.0 + 1) c.1; edge = up_from (c.0 + 1) c.1 }
      ∷ record { vertex = vertex_at (c.0 + 1) (c.1 + 1); edge = across_from c.0 (c.1 + 1) }
      ∷ record { vertex = vertex_at c.0 (c.1 + 1); edge = up_from c.0 c.1 }
      ∷ []

  abbrev pub point_at : ℤ → ℤ → ℕ × ℕ → V3
  point_at size_x size_y c = v3 (along_side size_x columns c.0) (along_side size_y rows c.1) (pos 0)

  abbrev pub grid : ℤ → ℤ → Shape
  grid size_x size_y = record {
    points = map (point_at size_x size_y) (cells columns rows);
    edges = map up_edge (cells columns (rows - 1)) ++ map across_edge (cells (columns - 1) rows);
    faces = map face_at (cells (columns - 1) (rows - 1));
  }
