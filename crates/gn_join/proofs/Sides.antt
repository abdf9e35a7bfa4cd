-- The mesh and the cloud of a join.
use Rattle.std.proofs.Common.{◌≡◌, ◌<◌, ◌^◌, List, length, map, Some, refl, sym, ap, subst, ◌∙◌, arith}
use Rattle.std.specs.List.{flat_map}
use Rattle.gn_value.specs.declared.vector.V3.{V3}
use Rattle.gn_value.specs.declared.value.Place.{Place}
use Rattle.gn_value.specs.declared.value.Place.TheVariants as place
use Rattle.gn_plain.specs.Columns.{Entry}
use Rattle.gn_plain.specs.Geometry.{Geometry, Shape}
use Rattle.gn_plain.specs.Topology.{shape_of}
use Rattle.gn_attr.specs.Columns.{plain_columns}
use Rattle.gn_attr.specs.declared.column.Column.{Column}
use Rattle.gn_geom.specs.Meshes.{plain_of, topology_of}
use Rattle.gn_geometry.specs.Fits.{mesh_count, cloud_count, AreFitting}
use Rattle.gn_geometry.specs.Clouds as clouds
use Rattle.gn_geometry.specs.Clouds.{CloudView, plain_cloud}
use Rattle.gn_geometry.specs.Meshes as meshes
use Rattle.gn_geometry.specs.Meshes.{MeshView, plain_mesh}
use Rattle.gn_geometry.proofs.Fitting.{fit_same}
use Rattle.gn_joins.specs.Joins.{joined_cloud, joined_columns, joined_mesh, joined_shape}
use Rattle.gn_joins.specs.Limits.{count_together}
use Rattle.gn_joins.proofs.Counts.{count_joined}
use Rattle.gn_pieces.specs.declared.shapes.Lists.{Lists}
use Rattle.gn_pieces.specs.declared.view.Component.TheVariants.{Mesh, Cloud}
use Rattle.gn_pieces.specs.declared.view.View.{View}
use Rattle.gn_pieces.specs.Lists as lists
use Rattle.gn_pieces.specs.Lists.{AreJoined}
use Rattle.gn_pieces.specs.Views.{geometry_of, joined_places, parts_of, AreColumnsOf}

-- ---- the mesh

abbrev shapes_in : List Geometry → List Shape
shapes_in gs = map (λ g. g.mesh.shape) gs

pub shape_is : (m : MeshView) (l : Lists) (gs : List Geometry) → m.shape.points.items ≡ l.points.items → topology_of m.shape ≡ lists.topology_of l → AreJoined l (shapes_in gs) → plain_of m.shape ≡ joined_shape (shapes_in gs)
shape_is m l gs points topology on =
    let lists_are : plain_of m.shape ≡ shape_of l.points.items (lists.topology_of l) = λ i. shape_of (points i) (topology i) in
    lists_are ∙ on.shape

mesh_places_are : (vs : List View) (p : Place) → mesh_count (joined_shape (shapes_in (map geometry_of vs))) p ≡ joined_places Mesh vs p
mesh_places_are vs place.Point = ap Some (count_joined (map geometry_of vs) place.Point)
mesh_places_are vs place.Edge = ap Some (count_joined (map geometry_of vs) place.Edge)
mesh_places_are vs place.Face = ap Some (count_joined (map geometry_of vs) place.Face)
mesh_places_are vs place.Corner = ap Some (count_joined (map geometry_of vs) place.Corner)
mesh_places_are vs place.Cloud = refl
mesh_places_are vs place.Instance = refl

pub mesh_fits : (vs : List View) (m : MeshView) (columns : List (Entry Column)) → plain_of m.shape ≡ joined_shape (shapes_in (map geometry_of vs)) → AreColumnsOf Mesh vs columns → AreFitting (mesh_count (plain_of m.shape)) columns
mesh_fits vs m columns shape kept =
    subst (λ s. AreFitting (mesh_count s) columns) (sym shape) (fit_same (joined_places Mesh vs) (mesh_count (joined_shape (shapes_in (map geometry_of vs)))) (mesh_places_are vs) columns kept.fit)

pub mesh_is : (vs : List View) (m : MeshView) (columns : List (Entry Column)) → plain_of m.shape ≡ joined_shape (shapes_in (map geometry_of vs)) → plain_columns columns ≡ joined_columns (parts_of Mesh vs)
    → plain_mesh (meshes.with_columns m columns) ≡ joined_mesh (map geometry_of vs)
mesh_is vs m columns shape all = λ i. record { shape = shape i; columns = all i }

pub mesh_sole : (vs : List View) (m : MeshView) (columns : List (Entry Column)) → meshes.IsSole m → AreColumnsOf Mesh vs columns → meshes.IsSole (meshes.with_columns m columns)
mesh_sole vs m columns sole kept = record { shape = sole.shape; columns = kept.sole }

-- ---- the cloud

points_count : (gs : List Geometry) → length (flat_map (λ (g : Geometry). g.cloud.points) gs) ≡ count_together gs place.Cloud
points_count gs = count_joined gs place.Cloud

pub points_few : (gs : List Geometry) (ps : List V3) → ps ≡ flat_map (λ (g : Geometry). g.cloud.points) gs → count_together gs place.Cloud < 2 ^ 32 → length ps < 2 ^ 32
points_few gs ps is few = let long : length ps ≡ count_together gs place.Cloud = ap length is ∙ points_count gs in omega (arith, long, few)

cloud_places_are : (vs : List View) (p : Place) → cloud_count (length (flat_map (λ (g : Geometry). g.cloud.points) (map geometry_of vs))) p ≡ joined_places Cloud vs p
cloud_places_are vs place.Point = refl
cloud_places_are vs place.Edge = refl
cloud_places_are vs place.Face = refl
cloud_places_are vs place.Corner = refl
cloud_places_are vs place.Cloud = ap Some (points_count (map geometry_of vs))
cloud_places_are vs place.Instance = refl

pub cloud_fits : (vs : List View) (ps : List V3) (columns : List (Entry Column)) → ps ≡ flat_map (λ (g : Geometry). g.cloud.points) (map geometry_of vs) → AreColumnsOf Cloud vs columns → AreFitting (cloud_count (length ps)) columns
cloud_fits vs ps columns points kept =
    subst (λ (qs : List V3). AreFitting (cloud_count (length qs)) columns) (sym points)
    (fit_same (joined_places Cloud vs) (cloud_count (length (flat_map (λ (g : Geometry). g.cloud.points) (map geometry_of vs)))) (cloud_places_are vs) columns kept.fit)

pub cloud_is : (vs : List View) (c : CloudView) (columns : List (Entry Column)) → c.points.items ≡ flat_map (λ (g : Geometry). g.cloud.points) (map geometry_of vs) → plain_columns columns ≡ joined_columns (parts_of Cloud vs)
    → plain_cloud (clouds.with_columns c columns) ≡ joined_cloud (map geometry_of vs)
cloud_is vs c columns points all = λ i. record { points = points i; columns = all i }

pub cloud_sole : (vs : List View) (c : CloudView) (columns : List (Entry Column)) → clouds.IsSole c → AreColumnsOf Cloud vs columns → clouds.IsSole (clouds.with_columns c columns)
cloud_sole vs c columns sole kept = record { points = sole.points; columns = kept.sole }
