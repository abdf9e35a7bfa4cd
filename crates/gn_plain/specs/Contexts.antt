-- Contexts: what a field can read, and where it is read.
use Rattle.std.specs.Prelude.{ℕ, ◌==◌, ◌||◌, Bool, true, false, ℤ, pos, ◌-ℤ◌, List, [], ◌∷◌, ◌++◌, length, map, codes, Option, None, Some, slice_index_or, is_some, if◌then◌else◌}
use Rattle.std.specs.List.{list_any, count_by}
use Rattle.gn_value.specs.Arithmetic.{sat, exact_product, total_by}
use Rattle.gn_value.specs.Values.{v3, zero_of, converted, normalized}
use Rattle.gn_value.specs.declared.vector.V3.{V3}
use Rattle.gn_value.specs.declared.value.Value.{Value}
use Rattle.gn_value.specs.declared.value.Value.TheVariants.{Truth as truth, Int as int, Vector as vector}
use Rattle.gn_value.specs.declared.value.ValueKind.{ValueKind}
use Rattle.gn_value.specs.declared.value.ValueKind.TheVariants as value_kind
use Rattle.gn_value.specs.declared.value.Place.{Place}
use Rattle.gn_value.specs.declared.value.Place.TheVariants as place
use Rattle.gn_plain.specs.Equality.{same_place}
use Rattle.gn_plain.specs.Edges.{Edge}
use Rattle.gn_plain.specs.Columns.{Name, named, Column, entry_named, value_of, kind_of_values}
use Rattle.gn_plain.specs.Geometry.{Corner, Shape, Mesh, Geometry, transforms, placed_in, columns_of, count_in}
use Rattle.gn_plain.specs.Interpolation.{interpolated}

-- what a field reads of an element
pub data Input : Type 0 where
  position index id normal : Input
  -- the column of that name, as values of a kind
  column : Name → ValueKind → Input
  -- is there a column of that name?
  exists : List ℕ → Input
  -- the vertices of an edge, the lesser first, and where they are
  edge_index_1 edge_index_2 edge_position_1 edge_position_2 : Input
  -- how many edges and faces a vertex has
  vertex_edges vertex_faces : Input

abbrev pub kind_of_input : Input → ValueKind
kind_of_input position = value_kind.Vector
kind_of_input normal = value_kind.Vector
kind_of_input (column name kind) = kind
kind_of_input (exists name) = value_kind.Truth
kind_of_input edge_position_1 = value_kind.Vector
kind_of_input edge_position_2 = value_kind.Vector
kind_of_input _ = value_kind.Int

-- a mesh, a cloud or instances by place: which places it has, how many elements these have, what inputs are at an element, and values on one place as values on another
pub record Component : Type 0 where
  pub has : Place → Bool
  pub count : Place → ℕ
  pub input : Place → Input → ℕ → Value
  pub interpolated : ValueKind → Place → Place → (ℕ → Value) → ℕ → Value

-- a field is read on a place of a component, or nowhere: then there is one element, of number 0, and nothing else to read
pub data Context : Type 0 where
  nowhere : Context
  on : Component → Place → Context

abbrev pub length_of : Context → ℕ
length_of nowhere = 1
length_of (on c p) = c.count p

abbrev pub input_at : Context → Input → ℕ → Value
input_at nowhere x i = zero_of (kind_of_input x)
input_at (on c p) x i = c.input p x i

abbrev pub number : ℕ → Value
number n = int (pos n)

-- ---- columns

abbrev pub Interpolation : Type 0
Interpolation = ValueKind → Place → Place → (ℕ → Value) → ℕ → Value

-- a column's values on a place, interpolated in their own kind, as values of a kind; other values where there is no column
abbrev pub column_or : (ℕ → Value) → Interpolation → Option Column → ValueKind → Place → ℕ → Value
column_or other between None kind p i = other i
column_or other between (Some c) kind p i = converted (between (kind_of_values c.column) c.place p (value_of c.column) i) kind

abbrev pub id_column : Name
id_column = named (codes "id")

abbrev pub has_column : List Column → List ℕ → Value
has_column columns name = truth (is_some (entry_named (named name) columns))

-- ---- a mesh

abbrev pub point_at : List V3 → ℕ → V3
point_at points i = slice_index_or points i (v3 (pos 0) (pos 0) (pos 0))

abbrev pub edge_numbered : Shape → ℕ → Edge
edge_numbered s i = slice_index_or s.edges i (record { lesser = 0; greater = 0 })

-- each vertex of a row with the one behind it
abbrev pub neighbours : List ℕ → List (ℕ × ℕ)
neighbours (a ∷ b ∷ vs) = (a, b) ∷ neighbours (b ∷ vs)
neighbours _ = []

-- each vertex of a face with the next one around it
abbrev pub around : List ℕ → List (ℕ × ℕ)
around [] = []
around (a ∷ vs) = neighbours ((a ∷ vs) ++ a ∷ [])

-- for two components a and b, the exact sum around a face of a(i) b(j) less b(i) a(j), each product rounded down
abbrev pub area_sum : List V3 → List (ℕ × ℕ) → (V3 → ℤ) → (V3 → ℤ) → ℤ
area_sum points pairs a b =
    total_by (λ q. exact_product (a (point_at points q.0)) (b (point_at points q.1)) -ℤ exact_product (b (point_at points q.0)) (a (point_at points q.1))) pairs

-- twice the area of a face, as a vector across it
abbrev pub doubled_area : List V3 → List (ℕ × ℕ) → V3
doubled_area points pairs =
    v3 (sat (area_sum points pairs (λ p. p.y.0) (λ p. p.z.0))) (sat (area_sum points pairs (λ p. p.z.0) (λ p. p.x.0))) (sat (area_sum points pairs (λ p. p.x.0) (λ p. p.y.0)))

abbrev pub normal_of : List V3 → List Corner → V3
normal_of points face = normalized (doubled_area points (around (map (λ c. c.vertex) face)))

-- the place that an input is known on
abbrev pub own_place : Input → Place
own_place normal = place.Face
own_place edge_index_1 = place.Edge
own_place edge_index_2 = place.Edge
own_place edge_position_1 = place.Edge
own_place edge_position_2 = place.Edge
own_place _ = place.Point

-- an input at an element of its own place
abbrev pub own_value : Shape → Input → ℕ → Value
own_value s position i = vector (point_at s.points i)
own_value s normal i = vector (normal_of s.points (slice_index_or s.faces i []))
own_value s edge_index_1 i = number (edge_numbered s i).lesser
own_value s edge_index_2 i = number (edge_numbered s i).greater
own_value s edge_position_1 i = vector (point_at s.points (edge_numbered s i).lesser)
own_value s edge_position_2 i = vector (point_at s.points (edge_numbered s i).greater)
own_value s vertex_edges i = number (count_by (λ e. (e.lesser == i) || (e.greater == i)) s.edges)
own_value s vertex_faces i = number (count_by (λ face. list_any (λ c. c.vertex == i) face) s.faces)
own_value s x i = zero_of (kind_of_input x)

abbrev pub mesh_input : Mesh → Place → Input → ℕ → Value
mesh_input m p index i = number i
mesh_input m p id i = column_or number (interpolated m.shape) (entry_named id_column m.columns) value_kind.Int p i
mesh_input m p (column name kind) i = column_or (λ i. zero_of kind) (interpolated m.shape) (entry_named name m.columns) kind p i
mesh_input m p (exists name) i = has_column m.columns name
mesh_input m p x i = interpolated m.shape (kind_of_input x) (own_place x) p (own_value m.shape x) i

abbrev pub is_of_mesh : Place → Bool
is_of_mesh place.Cloud = false
is_of_mesh place.Instance = false
is_of_mesh _ = true

abbrev pub mesh_component : Mesh → Component
mesh_component m = record { has = is_of_mesh; count = count_in m.shape; input = mesh_input m; interpolated = interpolated m.shape }

-- ---- a cloud, and instances: each has one place

abbrev pub unchanged : Interpolation
unchanged kind from to value = value

abbrev pub point_input : List V3 → List Column → Place → Input → ℕ → Value
point_input points columns p position i = vector (point_at points i)
point_input points columns p index i = number i
point_input points columns p id i = column_or number unchanged (entry_named id_column columns) value_kind.Int p i
point_input points columns p (column name kind) i = column_or (λ i. zero_of kind) unchanged (entry_named name columns) kind p i
point_input points columns p (exists name) i = has_column columns name
point_input points columns p x i = zero_of (kind_of_input x)

-- elements at these points, on one place alone
abbrev pub point_component : Place → List V3 → List Column → Component
point_component only points columns =
    record { has = same_place only; count = λ p. if same_place only p then length points else 0; input = point_input points columns; interpolated = unchanged }

-- ---- a geometry

-- an instance is where its translation is
abbrev pub component : Geometry → Place → Component
component g place.Cloud = point_component place.Cloud g.cloud.points g.cloud.columns
component g place.Instance = point_component place.Instance (map (λ t. t.translation) (transforms (placed_in g.instances))) (columns_of g.instances)
component g _ = mesh_component g.mesh

abbrev pub context : Geometry → Place → Context
context g p = on (component g p) p
