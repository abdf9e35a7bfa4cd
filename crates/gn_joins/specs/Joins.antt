-- The join of geometries: their elements one after another, with the numbers shifted, and their columns.
use Rattle.std.specs.Prelude.{ℕ, ◌+◌, List, [], ◌∷◌, ◌++◌, length, map, fold, flat_map, is_some, if◌then◌else◌}
use Rattle.std.specs.List.{range_with_len}
use Rattle.gn_value.specs.Values.{fx, as_truth, as_int, as_fixed, as_vector, zero_of}
use Rattle.gn_value.specs.declared.value.Value.{Value}
use Rattle.gn_value.specs.declared.value.ValueKind.{ValueKind}
use Rattle.gn_value.specs.declared.value.ValueKind.TheVariants.{Truth, Int, Fixed, Vector}
use Rattle.gn_value.specs.declared.value.Place.TheVariants as place
use Rattle.gn_plain.specs.Edges.{Edge}
use Rattle.gn_plain.specs.Columns.{Entry, Column, Values, truths, ints, fixed_numbers, vectors, entry_named, kind_of_values}
use Rattle.gn_plain.specs.Contexts.{Component, column_or, component}
use Rattle.gn_plain.specs.Geometry.{Corner, Shape, empty_shape, Mesh, Cloud, Geometry, Instances, with_columns, Placed, none_placed, and_placed, placed_in, columns_of}

-- ---- elements

abbrev pub edge_behind : ℕ → Edge → Edge
edge_behind n e = record { lesser = e.lesser + n; greater = e.greater + n }

abbrev pub corner_behind : ℕ → ℕ → Corner → Corner
corner_behind vertices edges c = record { vertex = c.vertex + vertices; edge = c.edge + edges }

-- a shape behind another, whose vertices and edges come first
abbrev pub shape_behind : Shape → Shape → Shape
shape_behind s t = record {
  points = s.points ++ t.points;
  edges = s.edges ++ map (edge_behind (length s.points)) t.edges;
  faces = s.faces ++ map (map (corner_behind (length s.points) (length s.edges))) t.faces;
}

abbrev pub joined_shape : List Shape → Shape
joined_shape ss = fold shape_behind empty_shape ss

abbrev pub placed_behind : Placed → Placed → Placed
placed_behind none_placed others = others
placed_behind (and_placed t mesh cloud instances placed) others = and_placed t mesh cloud instances (placed_behind placed others)

abbrev pub joined_placed : List Placed → Placed
joined_placed [] = none_placed
joined_placed (p ∷ ps) = placed_behind p (joined_placed ps)

-- ---- columns

-- a component with its columns
pub record Part : Type 0 where
  pub columns : List Column
  pub component : Component

-- a name that was not seen before, with the place and the kind that it comes with
abbrev pub with_head : List (Entry ValueKind) → Column → List (Entry ValueKind)
with_head heads c = if is_some (entry_named c.name heads) then heads else heads ++ record { name = c.name; place = c.place; column = kind_of_values c.column } ∷ []

-- the names in the order in which they are first seen
abbrev pub heads_of : List Part → List (Entry ValueKind)
heads_of ps = fold with_head [] (flat_map (λ p. p.columns) ps)

-- the values of a part under a name: of its column, interpolated and then converted; without one they are zero
abbrev pub part_values : Entry ValueKind → Part → List Value
part_values h p = map (column_or (λ i. zero_of h.column) p.component.interpolated (entry_named h.name p.columns) h.column h.place) (range_with_len 0 (p.component.count h.place))

abbrev pub values_in : ValueKind → List Value → Values
values_in Truth vs = truths (map as_truth vs)
values_in Int vs = ints (map as_int vs)
values_in Fixed vs = fixed_numbers (map (λ v. fx (as_fixed v)) vs)
values_in Vector vs = vectors (map as_vector vs)

abbrev pub joined_columns : List Part → List Column
joined_columns ps = map (λ h. record { name = h.name; place = h.place; column = values_in h.column (flat_map (part_values h) ps) }) (heads_of ps)

-- ---- geometry

abbrev pub mesh_part : Geometry → Part
mesh_part g = record { columns = g.mesh.columns; component = component g place.Point }

abbrev pub cloud_part : Geometry → Part
cloud_part g = record { columns = g.cloud.columns; component = component g place.Cloud }

abbrev pub instance_part : Geometry → Part
instance_part g = record { columns = columns_of g.instances; component = component g place.Instance }

abbrev pub joined_mesh : List Geometry → Mesh
joined_mesh gs = record { shape = joined_shape (map (λ g. g.mesh.shape) gs); columns = joined_columns (map mesh_part gs) }

abbrev pub joined_cloud : List Geometry → Cloud
joined_cloud gs = record { points = flat_map (λ g. g.cloud.points) gs; columns = joined_columns (map cloud_part gs) }

abbrev pub joined_instances : List Geometry → Instances
joined_instances gs = with_columns (joined_placed (map (λ g. placed_in g.instances) gs)) (joined_columns (map instance_part gs))

-- per component the elements of one geometry after another
abbrev pub joined : List Geometry → Geometry
joined gs = record { mesh = joined_mesh gs; cloud = joined_cloud gs; instances = joined_instances gs }
