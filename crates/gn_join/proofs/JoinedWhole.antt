-- The sides of a join, and its instances with their columns.
use Rattle.std.proofs.Common.{◌≡◌, ◌<◌, ◌^◌, List, length, map, None, refl, sym, ap, subst, ◌∙◌, arith}
use Rattle.gn_value.specs.declared.value.Place.{Place}
use Rattle.gn_value.specs.declared.value.Place.TheVariants as place
use Rattle.gn_plain.specs.Columns.{Entry}
use Rattle.gn_plain.specs.Geometry as plain
use Rattle.gn_plain.specs.Geometry.{placed_in}
use Rattle.gn_attr.specs.Columns.{plain_columns}
use Rattle.gn_attr.specs.declared.column.Column.{Column}
use Rattle.gn_geometry.specs.Clouds.{CloudView, plain_cloud}
use Rattle.gn_geometry.specs.Fits.{AreFitting}
use Rattle.gn_geometry.specs.Geometries.{geometry, InstancesView, instances, instance_count, items_in, plain_geometry, plain_instances, with_columns}
use Rattle.gn_geometry.specs.Meshes.{MeshView, plain_mesh}
use Rattle.gn_geometry.proofs.Fitting.{fit_same}
use Rattle.gn_geometry.proofs.Placed.{instances_count}
use Rattle.gn_joins.specs.Joins.{instance_part, joined, joined_cloud, joined_columns, joined_mesh, joined_placed}
use Rattle.gn_joins.specs.Limits.{all_places, count_together, first_over}
use Rattle.gn_joins.proofs.Counts.{count_joined}
use Rattle.gn_pieces.specs.declared.view.Component.TheVariants.{Instances}
use Rattle.gn_pieces.specs.declared.view.View.{View}
use Rattle.gn_pieces.specs.Lists.{mesh_places}
use Rattle.gn_pieces.specs.Views.{geometry_of, AreColumnsOf}
use Rattle.gn_join.specs.Gathering.{all_instances, AreColumnsOfAll}
use Rattle.gn_join.proofs.Few.{cloud_few, instances_few, mesh_few}

-- ---- views of these geometries

module _ (vs : List View) (gs : List plain.Geometry) (same : map geometry_of vs ≡ gs) (few : first_over (count_together gs) all_places ≡ None) where
  pub views_mesh_few : first_over (count_together (map geometry_of vs)) mesh_places ≡ None
  views_mesh_few = subst (λ xs. first_over (count_together xs) mesh_places ≡ None) (sym same) (mesh_few (count_together gs) few)

  pub views_cloud_few : count_together (map geometry_of vs) place.Cloud < 2 ^ 32
  views_cloud_few = subst (λ xs. count_together xs place.Cloud < 2 ^ 32) (sym same) (omega (arith, cloud_few (count_together gs) few))

pub instances_below : (gs : List plain.Geometry) → first_over (count_together gs) all_places ≡ None → count_together gs place.Instance < 2 ^ 32
instances_below gs few = omega (arith, instances_few (count_together gs) few)

pub columns_of_all : (vs : List View) (gs : List plain.Geometry) (columns : List (Entry Column)) → map geometry_of vs ≡ gs → AreColumnsOf Instances vs columns → AreColumnsOfAll gs columns
columns_of_all vs gs columns same kept =
    subst (λ xs. AreColumnsOfAll xs columns) same (record { sole = kept.sole; fit = kept.fit })

-- ---- instances with columns

instances_with : (is : InstancesView) (columns : List (Entry Column)) → plain_instances (with_columns is columns) ≡ plain.with_columns (placed_in (plain_instances is)) (plain_columns columns)
instances_with (instances parts items old) columns = refl

-- as many items as instances of the parts
items_long : (is : InstancesView) (gs : List plain.Geometry) → placed_in (plain_instances is) ≡ joined_placed (map (λ g. placed_in g.instances) gs) → length (items_in is) ≡ count_together gs place.Instance
items_long is gs placed = sym (instances_count is) ∙ (ap (λ p. length (plain.transforms p)) placed ∙ count_joined gs place.Instance)

all_are : (gs : List plain.Geometry) (p : Place) → instance_count (count_together gs place.Instance) p ≡ all_instances gs p
all_are gs place.Point = refl
all_are gs place.Edge = refl
all_are gs place.Face = refl
all_are gs place.Corner = refl
all_are gs place.Cloud = refl
all_are gs place.Instance = refl

pub instances_fit : (is : InstancesView) (gs : List plain.Geometry) (columns : List (Entry Column)) → placed_in (plain_instances is) ≡ joined_placed (map (λ g. placed_in g.instances) gs) → AreColumnsOfAll gs columns
    → AreFitting (instance_count (length (items_in is))) columns
instances_fit is gs columns placed kept =
    subst (λ n. AreFitting (instance_count n) columns) (sym (items_long is gs placed)) (fit_same (all_instances gs) (instance_count (count_together gs place.Instance)) (all_are gs) columns kept.fit)

-- the sides and the instances make the join
pub joined_is : (gs : List plain.Geometry) (m : MeshView) (c : CloudView) (is now : InstancesView) (columns : List (Entry Column)) → plain_mesh m ≡ joined_mesh gs → plain_cloud c ≡ joined_cloud gs
    → placed_in (plain_instances is) ≡ joined_placed (map (λ g. placed_in g.instances) gs) → plain_columns columns ≡ joined_columns (map instance_part gs) → now ≡ with_columns is columns → plain_geometry (geometry m c now) ≡ joined gs
joined_is gs m c is now columns mesh cloud placed all same =
    let whole : plain_instances now ≡ plain.with_columns (joined_placed (map (λ g. placed_in g.instances) gs)) (joined_columns (map instance_part gs)) =
    ap plain_instances same ∙ (instances_with is columns ∙ (λ i. plain.with_columns (placed i) (all i))) in
    λ i. record { mesh = mesh i; cloud = cloud i; instances = whole i }
