-- The text that a geometry is written as.
use Rattle.std.specs.Prelude.{ℕ, ◌+◌, List, [], ◌∷◌, ◌++◌, flat_map, codes, if◌then◌else◌}
use Rattle.std.specs.Fmt.{decimal}
use Rattle.std.specs.List.{enumerate_from}
use Rattle.gn_value.specs.declared.vector.V3.{V3}
use Rattle.gn_plain.specs.Edges.{Edge}
use Rattle.gn_plain.specs.Geometry.{Corner, Shape, Geometry, is_loose}
use Rattle.gn_decimal.specs.Decimal.{dec}

abbrev pub spaced : List ℕ → List ℕ
spaced word = 32 ∷ word

abbrev pub line_feed : List ℕ
line_feed = 10 ∷ []

-- a vertex by its number, counted from 1
abbrev pub vertex_word : ℕ → List ℕ
vertex_word k = spaced (decimal (k + 1))

-- `v X Y Z`
abbrev pub vertex_line : V3 → List ℕ
vertex_line p = codes "v" ++ spaced (dec p.x.0) ++ spaced (dec p.y.0) ++ spaced (dec p.z.0) ++ line_feed

-- `l A B`
abbrev pub edge_line : Edge → List ℕ
edge_line e = codes "l" ++ vertex_word e.lesser ++ vertex_word e.greater ++ line_feed

-- the line of an edge with its number, where no face has it
abbrev pub loose_edge_line : Shape → ℕ × Edge → List ℕ
loose_edge_line m e = if is_loose m e.0 then edge_line e.1 else []

-- `f A B C` and further, with as many vertices as the face has corners
abbrev pub face_line : List Corner → List ℕ
face_line corners = codes "f" ++ flat_map (λ c. vertex_word c.vertex) corners ++ line_feed

-- the vertices, then the edges that no face has, then the faces
unfoldable pub obj_text : Geometry → List ℕ
obj_text g =
    flat_map vertex_line g.mesh.shape.points
    ++ flat_map (loose_edge_line g.mesh.shape) (enumerate_from 0 g.mesh.shape.edges)
    ++ flat_map face_line g.mesh.shape.faces
