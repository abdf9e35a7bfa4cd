-- Distances of points, and which point of a list is the nearest.
use Rattle.std.specs.Prelude.{ℕ, ◌+◌, ◌<◌, ◌≤◌, List, length, slice_index_or, pos}
use Rattle.gn_value.specs.Arithmetic.{difference_of, square}
use Rattle.gn_value.specs.Values.{v3}
use Rattle.gn_value.specs.declared.vector.V3.{V3}

-- the square of the distance of a point from another: the exact sum of the squares of the differences
-- of their raw numbers, each brought into range
unfoldable pub distance : V3 → V3 → ℕ
distance point to = square (difference_of point.x.0 to.x.0) + square (difference_of point.y.0 to.y.0) + square (difference_of point.z.0 to.z.0)

-- the zero vector
abbrev pub origin : V3
origin = v3 (pos 0) (pos 0) (pos 0)

-- the point at an index
abbrev pub point_at : List V3 → ℕ → V3
point_at points k = slice_index_or points k origin

-- the point at an index is the nearest: none is nearer, and none before it is as near
pub record IsNearest (points : List V3) (to : V3) (index : ℕ) : Type 0 where
  pub within : index < length points
  pub nearest : (k : ℕ) → k < length points → distance (point_at points index) to ≤ distance (point_at points k) to
  pub first : (k : ℕ) → k < index → distance (point_at points index) to < distance (point_at points k) to
