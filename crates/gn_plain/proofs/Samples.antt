-- Small meshes for the examples. Points are whole units apart.
use Rattle.std.proofs.Common.{ℕ, ℤ, pos, ◌*◌, ◌^◌, [], ◌∷◌}
use Rattle.gn_value.specs.declared.vector.V3.{V3}
use Rattle.gn_value.specs.Values.{v3}
use Rattle.gn_plain.specs.Edges.{Edge}
use Rattle.gn_plain.specs.Geometry.{Corner, Shape}

-- the raw number of whole units
abbrev pub units : ℕ → ℤ
units n = pos (n * 2 ^ 32)

abbrev pub at_units : ℕ → ℕ → ℕ → V3
at_units x y z = v3 (units x) (units y) (units z)

abbrev pub corner : ℕ → ℕ → Corner
corner vertex edge = record { vertex = vertex; edge = edge }

abbrev pub edge : ℕ → ℕ → Edge
edge a b = record { lesser = a; greater = b }

abbrev pub triangle : Shape
triangle = record {
  points = at_units 0 0 0 ∷ at_units 1 0 0 ∷ at_units 0 1 0 ∷ [];
  edges = edge 0 1 ∷ edge 1 2 ∷ edge 0 2 ∷ [];
  faces = (corner 0 0 ∷ corner 1 1 ∷ corner 2 2 ∷ []) ∷ [];
}

-- the triangles 0 1 2 and 1 2 3, which share an edge, and a fifth vertex
abbrev pub two_triangles : Shape
two_triangles = record {
  points = at_units 0 0 0 ∷ at_units 1 0 0 ∷ at_units 0 1 0 ∷ at_units 1 1 0 ∷ at_units 5 5 5 ∷ [];
  edges = edge 0 1 ∷ edge 1 2 ∷ edge 0 2 ∷ edge 2 3 ∷ edge 1 3 ∷ [];
  faces = (corner 0 0 ∷ corner 1 1 ∷ corner 2 2 ∷ []) ∷ (corner 1 1 ∷ corner 2 3 ∷ corner 3 4 ∷ []) ∷ [];
}
