-- The text of a geometry, by computation.
use Rattle.std.proofs.Common.{◌≡◌, ℕ, ◌*◌, ◌^◌, [], ◌∷◌, codes, pos, refl}
use Rattle.std.specs.Fmt.{digits}
use Rattle.gn_value.specs.declared.vector.V3.{V3}
use Rattle.gn_value.specs.Values.{v3}
use Rattle.gn_plain.specs.Edges.{Edge}
use Rattle.gn_plain.specs.Geometry.{Corner, Geometry, empty, of_shape}
use Rattle.gn_decimal.specs.Decimal.{nearest, fraction_digits, dec}
use Rattle.gn_obj.specs.Written.{obj_text}

-- a point at whole units
abbrev at : ℕ → ℕ → ℕ → V3
at x y z = v3 (pos (x * 2 ^ 32)) (pos (y * 2 ^ 32)) (pos (z * 2 ^ 32))

abbrev corner : ℕ → ℕ → Corner
corner vertex edge = record { vertex = vertex; edge = edge }

abbrev edge : ℕ → ℕ → Edge
edge a b = record { lesser = a; greater = b }

-- a triangle, and an edge from it to a vertex that no face has
abbrev flag : Geometry
flag = of_shape (record {
  points = at 0 0 1 ∷ at 1 0 1 ∷ at 0 1 1 ∷ at 0 7 1 ∷ [];
  edges = edge 2 3 ∷ edge 0 1 ∷ edge 1 2 ∷ edge 0 2 ∷ [];
  faces = (corner 0 1 ∷ corner 1 2 ∷ corner 2 3 ∷ []) ∷ [];
})

only_the_edge_without_a_face_has_a_line : obj_text flag ≡ codes "v 0 0 1\nv 1 0 1\nv 0 1 1\nv 0 7 1\nl 3 4\nf 1 2 3\n"
unfolding obj_text nearest fraction_digits digits dec
only_the_edge_without_a_face_has_a_line = refl

nothing_is_written_of_nothing : obj_text empty ≡ []
unfolding obj_text
nothing_is_written_of_nothing = refl
