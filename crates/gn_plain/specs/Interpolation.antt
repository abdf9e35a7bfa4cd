-- Interpolation between the places of a mesh: from which elements an element takes its value, and what becomes of several.
use Rattle.std.specs.Prelude.{ℕ, suc, ◌+◌, ◌==◌, Bool, true, false, ℤ, List, [], ◌∷◌, ◌++◌, length, map, filter, flat_map, fold, if◌then◌else◌}
use Rattle.std.specs.List.{list_any, list_all}
use Rattle.gn_value.specs.Arithmetic.{mean_of, sat, sat_int, total_by}
use Rattle.gn_value.specs.Values.{fx, v3, as_truth, as_int, as_fixed, as_vector}
use Rattle.gn_value.specs.declared.value.Value.{Value}
use Rattle.gn_value.specs.declared.value.Value.TheVariants.{Truth as truth, Int as int, Fixed as fixed, Vector as vector}
use Rattle.gn_value.specs.declared.value.ValueKind.{ValueKind}
use Rattle.gn_value.specs.declared.value.ValueKind.TheVariants.{Truth, Int, Fixed, Vector}
use Rattle.gn_value.specs.declared.value.Place.{Place}
use Rattle.gn_value.specs.declared.value.Place.TheVariants.{Point, Edge, Face, Corner}
use Rattle.gn_plain.specs.Equality.{same_place}
use Rattle.gn_plain.specs.Edges as edges
use Rattle.gn_plain.specs.Geometry as geometry
use Rattle.gn_plain.specs.Geometry.{Shape}

-- ---- what a corner touches

-- a corner by its number among all: its vertex, its edge, its face, the edge of the corner before it in the face, and the corner behind it
pub record Touching : Type 0 where
  pub corner : ℕ
  pub vertex : ℕ
  pub edge : ℕ
  pub face : ℕ
  pub edge_before : ℕ
  pub next : ℕ

abbrev pub touching : ℕ → ℕ → ℕ → ℕ → geometry.Corner → Touching
touching face corner before next c = record { corner = corner; vertex = c.vertex; edge = c.edge; face = face; edge_before = before; next = next }

-- the corners of a face from one of them on; the last one is followed by the face's first
abbrev pub corners_on : ℕ → ℕ → ℕ → ℕ → List geometry.Corner → List Touching
corners_on face first corner before [] = []
corners_on face first corner before (c ∷ []) = touching face corner before first c ∷ []
corners_on face first corner before (c ∷ d ∷ cs) = touching face corner before (suc corner) c ∷ corners_on face first (suc corner) c.edge (d ∷ cs)

abbrev pub last_edge : List geometry.Corner → ℕ
last_edge cs = fold (λ before c. c.edge) 0 cs

-- the corners of faces, numbered from here on
abbrev pub corners_from : ℕ → ℕ → List (List geometry.Corner) → List Touching
corners_from face first [] = []
corners_from face first (f ∷ fs) = corners_on face first first (last_edge f) f ++ corners_from (suc face) (first + length f) fs

abbrev pub corners : Shape → List Touching
corners s = corners_from 0 0 s.faces

-- ---- who takes from whom

-- an element of one place, and one of another that it takes a value from
abbrev pub Taking : Type 0
Taking = ℕ × ℕ

-- each edge takes from its two vertices
abbrev pub along_edges : ℕ → List edges.Edge → List Taking
along_edges k [] = []
along_edges k (e ∷ es) = (k, e.lesser) ∷ (k, e.greater) ∷ along_edges (suc k) es

abbrev pub turned : List Taking → List Taking
turned ts = map (λ t. (t.1, t.0)) ts

-- from a place to another, in order
abbrev pub takings : Place → Place → Shape → List Taking
takings Point Edge s = along_edges 0 s.edges
takings Point Face s = map (λ c. (c.face, c.vertex)) (corners s)
takings Point Corner s = map (λ c. (c.corner, c.vertex)) (corners s)
takings Edge Point s = turned (along_edges 0 s.edges)
takings Edge Face s = map (λ c. (c.face, c.edge)) (corners s)
takings Edge Corner s = flat_map (λ c. (c.corner, c.edge) ∷ (c.corner, c.edge_before) ∷ []) (corners s)
takings Face Point s = map (λ c. (c.vertex, c.face)) (corners s)
takings Face Edge s = map (λ c. (c.edge, c.face)) (corners s)
takings Face Corner s = map (λ c. (c.corner, c.face)) (corners s)
takings Corner Point s = map (λ c. (c.vertex, c.corner)) (corners s)
takings Corner Edge s = flat_map (λ c. (c.edge, c.corner) ∷ (c.edge, c.next) ∷ []) (corners s)
takings Corner Face s = map (λ c. (c.face, c.corner)) (corners s)
takings _ _ s = []

-- the elements that element i takes from
abbrev pub taken_by : ℕ → List Taking → List ℕ
taken_by i ts = map (λ t. t.1) (filter (λ t. t.0 == i) ts)

abbrev pub sources : Place → Place → Shape → ℕ → List ℕ
sources from to s i = taken_by i (takings from to s)

-- ---- several values as one

-- is a truth true where one of its sources is? Else all have to be
abbrev pub one_suffices : Place → Place → Bool
one_suffices Edge Point = true
one_suffices Face Point = true
one_suffices Face Edge = true
one_suffices _ _ = false

-- without sources it is false
abbrev pub truth_of : Bool → List Bool → Bool
truth_of one [] = false
truth_of true bs = list_any (λ b. b) bs
truth_of false bs = list_all (λ b. b) bs

abbrev pub mean_by : (Value → ℤ) → List Value → ℤ
mean_by f vs = mean_of (total_by f vs) (length vs)

abbrev pub x_of : Value → ℤ
x_of v = (as_vector v).x.0

abbrev pub y_of : Value → ℤ
y_of v = (as_vector v).y.0

abbrev pub z_of : Value → ℤ
z_of v = (as_vector v).z.0

abbrev pub combined : ValueKind → Bool → List Value → Value
combined Truth one vs = truth (truth_of one (map as_truth vs))
combined Int one vs = int (sat_int (mean_by as_int vs))
combined Fixed one vs = fixed (fx (sat (mean_by as_fixed vs)))
combined Vector one vs = vector (v3 (sat (mean_by x_of vs)) (sat (mean_by y_of vs)) (sat (mean_by z_of vs)))

-- values of a kind on a place as values on another
abbrev pub interpolated : Shape → ValueKind → Place → Place → (ℕ → Value) → ℕ → Value
interpolated s kind from to value i = if same_place from to then value i else combined kind (one_suffices from to) (map value (sources from to s i))
