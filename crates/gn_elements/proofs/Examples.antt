-- Texts and meshes, by computation.
use Rattle.std.proofs.Common.{◌≡◌, ℕ, ◌*◌, ◌^◌, [], ◌∷◌, ◌++◌, Result, Ok, Err, codes, pos, refl}
use Rattle.gn_value.specs.declared.vector.V3.{V3}
use Rattle.gn_value.specs.Values.{v3}
use Rattle.gn_plain.specs.Edges.{Edge}
use Rattle.gn_plain.specs.Geometry.{Corner, Shape}
use Rattle.gn_decimal.specs.Decimal.{nearest, small_number, signed_exponent, exponent_of, parts_of, units, raw_of, magnitude_of, num}
use Rattle.gn_lines.specs.Lines.{Text, lines}
use Rattle.gn_elements.specs.Read.{Bad, mesh}

-- a point at whole units
abbrev at : ℕ → ℕ → ℕ → V3
at x y z = v3 (pos (x * 2 ^ 32)) (pos (y * 2 ^ 32)) (pos (z * 2 ^ 32))

abbrev corner : ℕ → ℕ → Corner
corner vertex edge = record { vertex = vertex; edge = edge }

abbrev edge : ℕ → ℕ → Edge
edge a b = record { lesser = a; greater = b }

abbrev triangle_at : ℕ → Shape
triangle_at z = record {
  points = at 0 0 z ∷ at 1 0 z ∷ at 0 1 z ∷ [];
  edges = edge 0 1 ∷ edge 1 2 ∷ edge 0 2 ∷ [];
  faces = (corner 0 0 ∷ corner 1 1 ∷ corner 2 2 ∷ []) ∷ [];
}

abbrev bad : ℕ → ℕ → Result Shape Bad
bad n rule = Err (record { line = n; rule = rule })

-- three vertices, and a last line
abbrev triangle_with : Text → Text
triangle_with line = codes "v 0 0 0\nv 1 0 0\nv 0 1 0\n" ++ line

a_triangle_is_read : mesh (triangle_with (codes "f 1 2 3\n")) ≡ Ok (triangle_at 0)
unfolding lines mesh nearest small_number signed_exponent exponent_of parts_of units raw_of magnitude_of num
a_triangle_is_read = refl

a_reference_from_the_back : mesh (triangle_with (codes "f -3/7 +2 003//")) ≡ Ok (triangle_at 0)
unfolding lines mesh nearest small_number signed_exponent exponent_of parts_of units raw_of magnitude_of num
a_reference_from_the_back = refl

index_0 : mesh (triangle_with (codes "f 1 2 0\n")) ≡ bad 4 3
unfolding lines mesh nearest small_number signed_exponent exponent_of parts_of units raw_of magnitude_of num
index_0 = refl

no_vertex_of_that_number : mesh (triangle_with (codes "f 1 2 4\n")) ≡ bad 4 4
unfolding lines mesh nearest small_number signed_exponent exponent_of parts_of units raw_of magnitude_of num
no_vertex_of_that_number = refl

the_least_rule : mesh (triangle_with (codes "\nf 1\\\n 4 x\n")) ≡ bad 5 3
unfolding lines mesh nearest small_number signed_exponent exponent_of parts_of units raw_of magnitude_of num
the_least_rule = refl

too_few_references : mesh (triangle_with (codes "f 9 0\n")) ≡ bad 4 2
unfolding lines mesh nearest small_number signed_exponent exponent_of parts_of units raw_of magnitude_of num
too_few_references = refl

a_vertex_without_a_third_number : mesh (codes "v 0 0 # 1\nv") ≡ bad 1 1
unfolding lines mesh nearest small_number signed_exponent exponent_of parts_of units raw_of magnitude_of num
a_vertex_without_a_third_number = refl

rows_and_faces_share_edges : mesh (triangle_with (codes "l 3 3 2 3\nf 1 1 2\nf 1 2 3\np 1\nvt x")) ≡ Ok (record {
  points = at 0 0 0 ∷ at 1 0 0 ∷ at 0 1 0 ∷ [];
  edges = edge 1 2 ∷ edge 0 1 ∷ edge 0 2 ∷ [];
  faces = (corner 0 1 ∷ corner 1 0 ∷ corner 2 2 ∷ []) ∷ [];
})
unfolding lines mesh nearest small_number signed_exponent exponent_of parts_of units raw_of magnitude_of num
rows_and_faces_share_edges = refl

no_lines : mesh [] ≡ Ok (record { points = []; edges = []; faces = [] })
unfolding lines mesh
no_lines = refl
