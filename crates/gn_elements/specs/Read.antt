-- The mesh that an OBJ text spells, or its first bad line.
use Rattle.std.specs.Prelude.{ℕ, ◌^◌, ◌==◌, ◌&&◌, nat_le, not, Bool, true, List, [], ◌∷◌, ◌++◌, length, map, filter, flat_map, sum, codes, bytes_eq, Option, Some, Result, Ok, Err, if◌then◌else◌, ℤ}
use Rattle.std.specs.List.{list_any, position_or_len, zip}
use Rattle.gn_value.specs.declared.vector.V3.{V3}
use Rattle.gn_value.specs.Values.{v3}
use Rattle.gn_plain.specs.Edges.{Edge, is_edge, edges_along, edges_around, first_seen}
use Rattle.gn_plain.specs.Geometry.{Corner, Shape}
use Rattle.gn_decimal.specs.Decimal.{num}
use Rattle.gn_lines.specs.Lines.{Text, Line, lines}
use Rattle.gn_elements.specs.References.{vertices_named, no_position, too_many_elements}

-- ---- one line

-- what a line adds: a vertex, the edges along a row of vertices, a face, or nothing
pub data Element : Type 0 where
  vertex : V3 → Element
  row : List ℕ → Element
  face : List ℕ → Element
  nothing : Element

-- the position of three numbers
abbrev pub position_of : Option ℤ → Option ℤ → Option ℤ → Result Element ℕ
position_of (Some x) (Some y) (Some z) = Ok (vertex (v3 x y z))
position_of _ _ _ = Err no_position

-- further words are not read
abbrev pub vertex_of : List Text → Result Element ℕ
vertex_of (x ∷ y ∷ z ∷ ws) = position_of (num x) (num y) (num z)
vertex_of _ = Err no_position

abbrev pub all_differ : List ℕ → Bool
all_differ [] = true
all_differ (v ∷ vs) = not (list_any (λ u. u == v) vs) && all_differ vs

-- a face that names a vertex twice is none
abbrev pub face_of : List ℕ → Element
face_of vs = if all_differ vs then face vs else nothing

abbrev pub with_vertices : (List ℕ → Element) → Result (List ℕ) ℕ → Result Element ℕ
with_vertices f (Ok vs) = Ok (f vs)
with_vertices f (Err rule) = Err rule

-- what a line's words add, or the least of the rules on words that they break; `count` vertices were read so far
abbrev pub element_of : ℕ → List Text → Result Element ℕ
element_of count [] = Ok nothing
element_of count (w ∷ ws) =
    if bytes_eq w (codes "v") then vertex_of ws
    else (if bytes_eq w (codes "f") then with_vertices face_of (vertices_named 3 count ws)
    else (if bytes_eq w (codes "l") then with_vertices row (vertices_named 2 count ws)
    else (if bytes_eq w (codes "p") then with_vertices (λ vs. nothing) (vertices_named 1 count ws)
    else Ok nothing)))

-- ---- all lines

abbrev pub points_of : Element → List V3
points_of (vertex p) = p ∷ []
points_of _ = []

abbrev pub faces_of : Element → List (List ℕ)
faces_of (face vs) = vs ∷ []
faces_of _ = []

-- between two vertices that differ
abbrev pub is_proper : Edge → Bool
is_proper e = not (e.lesser == e.greater)

abbrev pub edges_of : Element → List Edge
edges_of (row vs) = filter is_proper (edges_along vs)
edges_of (face vs) = edges_around vs
edges_of _ = []

-- a face's corners, each with the number of its edge
abbrev pub corners : List Edge → List ℕ → List Corner
corners edges vs =
    map (λ c. record { vertex = c.0; edge = c.1 }) (zip vs (map (λ e. position_or_len (is_edge e) edges) (edges_around vs)))

-- the shape that all elements make
abbrev pub shape_of : List Element → Shape
shape_of elements =
    let edges = first_seen (flat_map edges_of elements) in
    record { points = flat_map points_of elements; edges = edges; faces = map (corners edges) (flat_map faces_of elements) }

abbrev pub most : ℕ
most = 2 ^ 23

abbrev pub is_within : Shape → Bool
is_within m =
    nat_le (length m.points) most && (nat_le (length m.edges) most
    && (nat_le (length m.faces) most && nat_le (sum (map length m.faces)) most))

-- the first bad line, and the least rule that it breaks
pub record Bad : Type 0 where
  pub line : ℕ
  pub rule : ℕ

-- the element of a line below others, or the least rule that the line breaks
abbrev pub within : List Element → Result Element ℕ → Result Element ℕ
within above (Err rule) = Err rule
within above (Ok e) = if is_within (shape_of (above ++ e ∷ [])) then Ok e else Err too_many_elements

abbrev pub next_element : List Element → List Text → Result Element ℕ
next_element above words = within above (element_of (length (flat_map points_of above)) words)

abbrev pub go_on : ℕ → Result Element ℕ → (Element → Result (List Element) Bad) → Result (List Element) Bad
go_on n (Ok e) rest = rest e
go_on n (Err rule) rest = Err (record { line = n; rule = rule })

-- the elements above some lines, with those of the lines
abbrev pub elements_from : List Element → List Line → Result (List Element) Bad
elements_from above [] = Ok above
elements_from above (l ∷ ls) = go_on l.number (next_element above l.words) (λ e. elements_from (above ++ e ∷ []) ls)

abbrev pub mesh_or_bad : Result (List Element) Bad → Result Shape Bad
mesh_or_bad (Ok elements) = Ok (shape_of elements)
mesh_or_bad (Err bad) = Err bad

unfoldable pub mesh : Text → Result Shape Bad
mesh text = mesh_or_bad (elements_from [] (lines text))
