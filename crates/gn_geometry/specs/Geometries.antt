-- What clauses see of a geometry and of instances, and the plain geometry that they stand for.
use Rattle.std.specs.Prelude.{◌≡◌, ℕ, suc, ◌+◌, ◌<◌, ◌≤◌, ◌^◌, max, pos, Bool, List, [], ◌∷◌, ◌++◌, length, All, Option, slice_index_or, slice_set}
use Rattle.std.specs.List.{AllZip}
use Rattle.std.proofs.Common.{arith, refl, ap}
use denote.Param.Weighed.{most}
use Rattle.gn_value.specs.declared.vector.V3.{V3}
use Rattle.gn_value.specs.declared.value.Place.{Place}
use Rattle.gn_value.specs.declared.value.Place.TheVariants.{Instance}
use Rattle.gn_value.specs.Values.{v3}
use Rattle.gn_plain.specs.Columns.{Entry}
use Rattle.gn_plain.specs.Geometry as plain
use Rattle.gn_attr.specs.declared.column.Column.{Column}
use Rattle.gn_attr.specs.Columns.{plain_columns, AreSole, KeepsEntry, IsTwinEntry}
use Rattle.gn_geometry.specs.declared.geometry.Transform.{Transform}
use Rattle.gn_geometry.specs.Fits.{AreFitting, count_only}
use Rattle.gn_geometry.specs.Meshes as meshes
use Rattle.gn_geometry.specs.Meshes.{column_copies}
use Rattle.gn_geometry.specs.Clouds as clouds

mutual
  -- a mesh, a cloud and instances
  pub data GeometryView : Type 0 where
    geometry : meshes.MeshView → clouds.CloudView → InstancesView → GeometryView

  -- parts, the transform of each instance with the number of the part that it places, and the columns of the instances
  pub data InstancesView : Type 0 where
    instances : Parts → List (Transform × ℕ) → List (Entry Column) → InstancesView

  pub data Parts : Type 0 where
    no_parts : Parts
    part : GeometryView → Parts → Parts

abbrev pub parts_of : List GeometryView → Parts
parts_of [] = no_parts
parts_of (g ∷ gs) = part g (parts_of gs)

abbrev pub list_of : Parts → List GeometryView
list_of no_parts = []
list_of (part g gs) = g ∷ list_of gs

pub list_of_parts : (gs : List GeometryView) → list_of (parts_of gs) ≡ gs
list_of_parts [] = refl
list_of_parts (g ∷ gs) = ap (λ xs. g ∷ xs) (list_of_parts gs)

abbrev pub mesh_in : GeometryView → meshes.MeshView
mesh_in (geometry mesh cloud placed) = mesh

abbrev pub cloud_in : GeometryView → clouds.CloudView
cloud_in (geometry mesh cloud placed) = cloud

abbrev pub instances_in : GeometryView → InstancesView
instances_in (geometry mesh cloud placed) = placed

abbrev pub parts_in : InstancesView → List GeometryView
parts_in (instances parts items columns) = list_of parts

abbrev pub items_in : InstancesView → List (Transform × ℕ)
items_in (instances parts items columns) = items

abbrev pub columns_in : InstancesView → List (Entry Column)
columns_in (instances parts items columns) = columns

abbrev pub with_columns : InstancesView → List (Entry Column) → InstancesView
with_columns (instances parts items old) columns = instances parts items columns

-- the same part with another transform
abbrev pub set_transform : List (Transform × ℕ) → ℕ → Transform → List (Transform × ℕ)
set_transform [] i t = []
set_transform (item ∷ items) i t = slice_set (item ∷ items) i (t, (slice_index_or (item ∷ items) i item).1)

abbrev pub with_transform : InstancesView → ℕ → Transform → InstancesView
with_transform (instances parts items columns) i t = instances parts (set_transform items i t) columns

-- the number of instances on their own place, the only one that they have
abbrev pub instance_count : ℕ → Place → Option ℕ
instance_count items = count_only Instance items

-- each item names a part, there are few of both, and the columns fit
pub record ArePlaced (parts : ℕ) (items : List (Transform × ℕ)) (columns : List (Entry Column)) : Type 0 where
  pub named : All (λ i. i.1 < parts) items
  pub few_parts : parts < 2 ^ 32
  pub few_items : length items < 2 ^ 32
  pub fit : AreFitting (instance_count (length items)) columns

-- ---- sizes

abbrev mutual
  pub node_count : GeometryView → ℕ
  node_count (geometry mesh cloud placed) = suc (sizes_in placed)

  pub sizes_in : InstancesView → ℕ
  sizes_in (instances parts items columns) = suc (sizes parts)

  pub sizes : Parts → ℕ
  sizes no_parts = 0
  sizes (part g gs) = node_count g + sizes gs

pub most_le : (gs : List GeometryView) → most (λ g. node_count g + 1) gs ≤ suc (sizes (parts_of gs))
most_le [] = omega arith
most_le (g ∷ gs) = omega (arith, most_le gs)

-- ---- the plain geometry

abbrev row : Transform → ℕ → V3
row t k = slice_index_or t.rows k (v3 (pos 0) (pos 0) (pos 0))

abbrev pub plain_transform : Transform → plain.Transform
plain_transform t = record { row_x = row t 0; row_y = row t 1; row_z = row t 2; translation = t.at }

abbrev pub placed_by : List (Transform × ℕ) → List plain.Geometry → plain.Placed
placed_by [] parts = plain.none_placed
placed_by (item ∷ items) parts =
    let g = slice_index_or parts item.1 plain.empty in
    plain.and_placed (plain_transform item.0) g.mesh g.cloud g.instances (placed_by items parts)

abbrev mutual
  -- without handles, each instance with the part that it names
  pub plain_geometry : GeometryView → plain.Geometry
  plain_geometry (geometry mesh cloud placed) = record { mesh = meshes.plain_mesh mesh; cloud = clouds.plain_cloud cloud; instances = plain_instances placed }

  pub plain_instances : InstancesView → plain.Instances
  plain_instances (instances parts items columns) = plain.with_columns (placed_by items (plain_parts parts)) (plain_columns columns)

  pub plain_parts : Parts → List plain.Geometry
  plain_parts no_parts = []
  plain_parts (part g gs) = plain_geometry g ∷ plain_parts gs

abbrev mutual
  -- 0 without parts, else one more than that of the deepest
  pub depth : GeometryView → ℕ
  depth (geometry mesh cloud placed) = depth_in placed

  pub depth_in : InstancesView → ℕ
  depth_in (instances parts items columns) = depth_below parts

  pub depth_below : Parts → ℕ
  depth_below no_parts = 0
  depth_below (part g gs) = max (suc (depth g)) (depth_below gs)

-- ---- handles

abbrev mutual
  -- each handle has all parts
  pub IsSole : GeometryView → Type 0
  IsSole (geometry mesh cloud placed) = meshes.IsSole mesh × clouds.IsSole cloud × AreSoleInstances placed

  pub AreSoleInstances : InstancesView → Type 0
  AreSoleInstances (instances parts items columns) = AreSoleParts parts × AreSole columns

  pub AreSoleParts : Parts → Type 0
  AreSoleParts no_parts = Unit {0}
  AreSoleParts (part g gs) = IsSole g × AreSoleParts gs

abbrev mutual
  -- the same items in the same blocks
  pub KeepsGeometry : GeometryView → GeometryView → Type 0
  KeepsGeometry (geometry m c is) (geometry m' c' is') = meshes.KeepsMesh m m' × clouds.KeepsCloud c c' × KeepsInstances is is'

  pub KeepsInstances : InstancesView → InstancesView → Type 0
  KeepsInstances (instances ps items es) (instances ps' items' es') = KeepsParts ps ps' × (items' ≡ items) × AllZip KeepsEntry es es'

  pub KeepsParts : Parts → Parts → Type 0
  KeepsParts no_parts no_parts = Unit {0}
  KeepsParts (part g gs) (part h hs) = KeepsGeometry g h × KeepsParts gs hs
  KeepsParts _ _ = ⊥

abbrev mutual
  -- the same items, in the same block where the handle had more than one part
  pub IsTwinGeometry : GeometryView → GeometryView → Type 0
  IsTwinGeometry (geometry m c is) (geometry m' c' is') = meshes.IsTwinMesh m m' × clouds.IsTwinCloud c c' × AreTwinInstances is is'

  pub AreTwinInstances : InstancesView → InstancesView → Type 0
  AreTwinInstances (instances ps items es) (instances ps' items' es') = AreTwinParts ps ps' × (items' ≡ items) × AllZip IsTwinEntry es es'

  pub AreTwinParts : Parts → Parts → Type 0
  AreTwinParts no_parts no_parts = Unit {0}
  AreTwinParts (part g gs) (part h hs) = IsTwinGeometry g h × AreTwinParts gs hs
  AreTwinParts _ _ = ⊥

abbrev mutual
  -- for each array, in order, whether its handle has one part
  pub geometry_copies : GeometryView → List Bool
  geometry_copies (geometry mesh cloud placed) = meshes.mesh_copies mesh ++ (clouds.cloud_copies cloud ++ instance_copies placed)

  pub instance_copies : InstancesView → List Bool
  instance_copies (instances parts items columns) = part_copies parts ++ column_copies columns

  pub part_copies : Parts → List Bool
  part_copies no_parts = []
  part_copies (part g gs) = geometry_copies g ++ part_copies gs
