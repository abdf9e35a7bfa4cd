-- The parts of a mesh while it is read, line by line.
use Rattle.std.specs.Prelude.{ℕ, ◌-◌, ◌&&◌, nat_le, Bool, List, [], ◌∷◌, ◌++◌, length, filter, fold, Result, Ok, Err, Option, None, if◌then◌else◌, ℤ}
use Rattle.std.specs.List.{position_or_len}
use Rattle.gn_value.specs.declared.vector.V3.{V3}
use Rattle.gn_plain.specs.Edges.{Edge, is_edge, edges_along, edges_around, with_edge}
use Rattle.gn_decimal.specs.Decimal.{num}
use Rattle.gn_lines.specs.Lines.{Text, Line}
use Rattle.gn_elements.specs.References.{too_many_elements}
use Rattle.gn_elements.specs.Read.{Element, vertex, row, face, nothing, is_proper, element_of, Bad, most}

-- `faces` has where each face's corners begin, and at last the number of corners
pub record Growing : Type 0 where
  pub points : List V3
  pub edges : List Edge
  pub corner_points : List ℕ
  pub corner_edges : List ℕ
  pub faces : List ℕ

abbrev pub none_yet : Growing
none_yet = record { points = []; edges = []; corner_points = []; corner_edges = []; faces = 0 ∷ [] }

-- the number of each edge, where each that is new is put behind the others
abbrev pub numbers_among : List Edge → List Edge → List ℕ
numbers_among edges [] = []
numbers_among edges (e ∷ es) = position_or_len (is_edge e) edges ∷ numbers_among (with_edge edges e) es

abbrev pub with_vertex : Growing → V3 → Growing
with_vertex g p = record {
  points = g.points ++ p ∷ [];
  edges = g.edges;
  corner_points = g.corner_points;
  corner_edges = g.corner_edges;
  faces = g.faces;
}

abbrev pub with_row : Growing → List ℕ → Growing
with_row g vs = record {
  points = g.points;
  edges = fold with_edge g.edges (filter is_proper (edges_along vs));
  corner_points = g.corner_points;
  corner_edges = g.corner_edges;
  faces = g.faces;
}

abbrev pub with_face : Growing → List ℕ → Growing
with_face g vs = record {
  points = g.points;
  edges = fold with_edge g.edges (edges_around vs);
  corner_points = g.corner_points ++ vs;
  corner_edges = g.corner_edges ++ numbers_among g.edges (edges_around vs);
  faces = g.faces ++ length (g.corner_points ++ vs) ∷ [];
}

abbrev pub with_element : Growing → Element → Growing
with_element g (vertex p) = with_vertex g p
with_element g (row vs) = with_row g vs
with_element g (face vs) = with_face g vs
with_element g nothing = g

abbrev pub fits : Growing → Bool
fits g =
    nat_le (length g.points) most && (nat_le (length g.edges) most
    && (nat_le (length g.faces - 1) most && nat_le (length g.corner_points) most))

abbrev pub if_it_fits : Growing → Result Growing ℕ
if_it_fits g = if fits g then Ok g else Err too_many_elements

abbrev pub grown : Growing → Result Element ℕ → Result Growing ℕ
grown g (Ok e) = if_it_fits (with_element g e)
grown g (Err rule) = Err rule

-- the parts with those of a line, or the least rule that it breaks
abbrev pub with_words : Growing → List Text → Result Growing ℕ
with_words g ws = grown g (element_of (length g.points) ws)

abbrev pub grow_on : ℕ → Result Growing ℕ → (Growing → Result Growing Bad) → Result Growing Bad
grow_on n (Ok g) rest = rest g
grow_on n (Err rule) rest = Err (record { line = n; rule = rule })

abbrev pub with_lines : Growing → List Line → Result Growing Bad
with_lines g [] = Ok g
with_lines g (l ∷ ls) = grow_on l.number (with_words g l.words) (λ h. with_lines h ls)

-- the number that the first of some words is
abbrev pub leading_number : List Text → Option ℤ
leading_number [] = None
leading_number (w ∷ ws) = num w
