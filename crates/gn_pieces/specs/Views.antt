-- Geometries as they go into a join, and their components with columns.
use Rattle.std.specs.Prelude.{◌≡◌, ℕ, Bool, true, false, List, [], ◌∷◌, length, map, Option, None, Some, unwrap_or, if◌then◌else◌}
use Rattle.std.specs.Borrow.{Bor}
use Rattle.gn_value.specs.declared.value.Place.{Place}
use Rattle.gn_value.specs.declared.vector.V3.{V3}
use Rattle.gn_value.specs.declared.value.Place.TheVariants as place
use Rattle.gn_plain.specs.Equality.{same_place}
use Rattle.gn_plain.specs.Columns as plain
use Rattle.gn_plain.specs.Columns.{Entry}
use Rattle.gn_plain.specs.Contexts.{is_of_mesh}
use Rattle.gn_plain.specs.Geometry as geometry
use Rattle.gn_attr.specs.Columns.{plain_columns, AreSole}
use Rattle.gn_attr.specs.declared.column.Column.{Column}
use Rattle.gn_geom.specs.Meshes.{plain_of}
use Rattle.gn_geometry.specs.Fits.{mesh_count, cloud_count, AreFitting}
use Rattle.gn_geometry.specs.Geometries.{GeometryView, mesh_in, cloud_in, instances_in, items_in, columns_in, instance_count, plain_geometry, plain_transform}
use Rattle.gn_joins.specs.Joins.{Part, mesh_part, cloud_part, instance_part}
use Rattle.gn_joins.specs.Limits.{count_together}
use Rattle.gn_joins.specs.Realized.{with_columns_of, with_handed}
use Rattle.gn_joins.specs.Transforms.{moved, moved_point}
use Rattle.gn_pieces.specs.declared.view.Component.{Component}
use Rattle.gn_pieces.specs.declared.view.Component.TheVariants.{Mesh, Cloud, Instances}
use Rattle.gn_pieces.specs.declared.view.Placing.{Placing}
use Rattle.gn_pieces.specs.declared.view.View.{View}

-- points as they stand, or where an instance puts them
abbrev pub moved_points : Option Placing → List V3 → List V3
moved_points None points = points
moved_points (Some p) points = map (moved_point (plain_transform p.transform)) points

-- a geometry as it stands, or moved and with the columns of the instance that places it
abbrev pub placed : Option Placing → geometry.Geometry → geometry.Geometry
placed None g = g
placed (Some p) g = with_columns_of p.item (plain_columns p.columns.now) (moved (plain_transform p.transform) g)

-- the plain geometry that goes into the join
abbrev pub geometry_of : View → geometry.Geometry
geometry_of v = placed v.placing (plain_geometry v.geometry.now)

-- a component with its columns
abbrev pub part_of : Component → geometry.Geometry → Part
part_of Mesh g = mesh_part g
part_of Cloud g = cloud_part g
part_of Instances g = instance_part g

abbrev pub parts_of : Component → List View → List Part
parts_of c vs = map (part_of c) (map geometry_of vs)

-- ---- places

-- the place whose elements an instance hands its columns to
abbrev pub own_place : Component → Place
own_place Mesh = place.Point
own_place Cloud = place.Cloud
own_place Instances = place.Instance

abbrev pub has_one_place : Component → Bool
has_one_place Mesh = false
has_one_place Cloud = true
has_one_place Instances = true

abbrev pub is_place_of : Component → Place → Bool
is_place_of Mesh p = is_of_mesh p
is_place_of Cloud p = same_place place.Cloud p
is_place_of Instances p = same_place place.Instance p

-- ---- columns

-- how many elements there are on each place of a component
abbrev pub places_of : Component → GeometryView → Place → Option ℕ
places_of Mesh g = mesh_count (plain_of (mesh_in g).shape)
places_of Cloud g = cloud_count (length (cloud_in g).points.items)
places_of Instances g = instance_count (length (items_in (instances_in g)))

-- how many there are on each in the join
abbrev pub joined_places : Component → List View → Place → Option ℕ
joined_places c vs p = if is_place_of c p then Some (count_together (map geometry_of vs) p) else None

-- the columns of a component, with their handles
abbrev pub columns_at : Component → GeometryView → List (Entry Column)
columns_at Mesh g = (mesh_in g).columns
columns_at Cloud g = (cloud_in g).columns
columns_at Instances g = columns_in (instances_in g)

-- the plain columns of instances, and the number of one of them
abbrev pub shown : Bor (List (Entry Column)) × ℕ → List plain.Column × ℕ
shown h = (plain_columns h.0.now, h.1)

-- columns, and behind them those that an instance hands on to the elements of a place, if there is one
abbrev pub handed_on : Option (List plain.Column × ℕ) → Place → ℕ → List plain.Column → List plain.Column
handed_on None p count own = own
handed_on (Some h) p count own = with_handed p count h.1 own h.0

-- each column is on a place of the component, or another place that stands for its own is one
abbrev pub AreOnPlaces : Component → Option Place → List (Entry Column) → Type 0
AreOnPlaces c on [] = Unit {0}
AreOnPlaces c on (e ∷ es) = (is_place_of c (unwrap_or on e.place) ≡ true) × AreOnPlaces c on es

-- each handle is the only one of its block, and each column has a value for each element of the join
pub record AreColumnsOf (c : Component) (vs : List View) (joined : List (Entry Column)) : Type 0 where
  pub sole : AreSole joined
  pub fit : AreFitting (joined_places c vs) joined
