-- Geometries that an instance places: how many elements they have, and their columns.
use Rattle.std.proofs.Common.{◌≡◌, inl, inr, ℕ, zero, suc, true, false, List, [], length, map, Option, Some, None, refl, sym, ap, ◌∙◌}
use Rattle.std.specs.Prelude.{◌==◌, ◌≢◌, if◌then◌else◌}
use Rattle.std.proofs.lemmas.Bool.Decides.{eqb_tells}
use Rattle.std.proofs.lemmas.List.{length-map}
use Rattle.gn_value.specs.declared.value.Value.{Value}
use Rattle.gn_value.specs.declared.value.ValueKind.{ValueKind}
use Rattle.gn_value.specs.declared.value.Place.{Place}
use Rattle.gn_value.specs.declared.value.Place.TheVariants as place
use Rattle.gn_plain.specs.Equality.{same_place}
use Rattle.gn_plain.specs.Columns.{Column}
use Rattle.gn_plain.specs.Geometry as plain
use Rattle.gn_plain.specs.Geometry.{count, count_in, transforms, placed_in, columns_of}
use Rattle.gn_plain.specs.Interpolation.{interpolated}
use Rattle.gn_plain.specs.Topology.{shape_of}
use Rattle.gn_attr.specs.Columns.{plain_columns}
use Rattle.gn_geom.specs.Meshes.{plain_of, topology_of}
use Rattle.gn_geometry.specs.Geometries.{GeometryView, geometry, InstancesView, instances, mesh_in, columns_in, plain_geometry, plain_instances, plain_transform}
use Rattle.gn_geometry.proofs.Placed.{instances_count}
use Rattle.gn_joins.specs.Realized.{with_handed}
use Rattle.gn_joins.specs.Transforms.{moved_instances, moved_placed, moved_point}
use Rattle.gn_joins.proofs.Anywhere.{interpolated_anywhere}
use Rattle.gn_pieces.specs.declared.view.Component.{Component}
use Rattle.gn_pieces.specs.declared.view.Component.TheVariants.{Mesh, Cloud, Instances}
use Rattle.gn_pieces.specs.declared.view.Placing.{Placing}
use Rattle.gn_pieces.specs.Views.{placed, part_of, own_place, is_place_of, places_of, columns_at}

-- ---- elements

moved_count : (t : plain.Transform) (p : plain.Placed) → length (transforms (moved_placed t p)) ≡ length (transforms p)
moved_count t plain.none_placed = refl
moved_count t (plain.and_placed inner mesh cloud is p) = ap suc (moved_count t p)

moved_instance_count : (t : plain.Transform) (is : plain.Instances) → length (transforms (placed_in (moved_instances t is))) ≡ length (transforms (placed_in is))
moved_instance_count t (plain.with_columns p columns) = moved_count t p

-- as many as where it stands
pub count_placed : (o : Option Placing) (g : plain.Geometry) (p : Place) → count (placed o g) p ≡ count g p
count_placed None g p = refl
count_placed (Some q) g place.Point = length-map g.mesh.shape.points (moved_point (plain_transform q.transform))
count_placed (Some q) g place.Edge = refl
count_placed (Some q) g place.Face = refl
count_placed (Some q) g place.Corner = refl
count_placed (Some q) g place.Cloud = length-map g.cloud.points (moved_point (plain_transform q.transform))
count_placed (Some q) g place.Instance = moved_instance_count (plain_transform q.transform) g.instances

-- those of a component are those of the geometry on its places
pub part_count : (c : Component) (g : plain.Geometry) (p : Place) → (part_of c g).component.count p ≡ (if is_place_of c p then count g p else 0)
part_count Mesh g place.Point = refl
part_count Mesh g place.Edge = refl
part_count Mesh g place.Face = refl
part_count Mesh g place.Corner = refl
part_count Mesh g place.Cloud = refl
part_count Mesh g place.Instance = refl
part_count Cloud g place.Point = refl
part_count Cloud g place.Edge = refl
part_count Cloud g place.Face = refl
part_count Cloud g place.Corner = refl
part_count Cloud g place.Cloud = refl
part_count Cloud g place.Instance = refl
part_count Instances g place.Point = refl
part_count Instances g place.Edge = refl
part_count Instances g place.Face = refl
part_count Instances g place.Corner = refl
part_count Instances g place.Cloud = refl
part_count Instances g place.Instance = length-map (transforms (placed_in g.instances)) (λ t. t.translation)

-- a component has no elements on the places of others
pub part_count_there : (c : Component) (g : plain.Geometry) (p : Place) (n : ℕ) → is_place_of c p ≡ true → n ≡ count g p → n ≡ (part_of c g).component.count p
part_count_there c g p n own is = is ∙ sym (part_count c g p ∙ ap (λ b. if b then count g p else 0) own)

pub part_count_elsewhere : (c : Component) (g : plain.Geometry) (p : Place) → is_place_of c p ≡ false → 0 ≡ (part_of c g).component.count p
part_count_elsewhere c g p other = sym (part_count c g p ∙ ap (λ b. if b then count g p else 0) other)

-- an array for each element of the place that takes the columns of an instance
pub own_places : (c : Component) (g : GeometryView) (o : Option Placing) → places_of c g (own_place c) ≡ Some ((part_of c (placed o (plain_geometry g))).component.count (own_place c))
own_places Mesh (geometry m cl is) o = ap Some (sym (count_placed o (plain_geometry (geometry m cl is)) place.Point))
own_places Cloud (geometry m cl is) o = ap Some (sym (count_placed o (plain_geometry (geometry m cl is)) place.Cloud))
own_places Instances (geometry m cl is) o =
    ap Some (sym (part_count Instances (placed o (plain_geometry (geometry m cl is))) place.Instance ∙ (count_placed o (plain_geometry (geometry m cl is)) place.Instance ∙ instances_count is)))

-- on places of a mesh, as many as the mesh has where it stands
pub mesh_part_count : (g : GeometryView) (o : Option Placing) (p : Place) → (part_of Mesh (placed o (plain_geometry g))).component.count p ≡ count_in (plain_of (mesh_in g).shape) p
mesh_part_count (geometry m cl is) o place.Point = count_placed o (plain_geometry (geometry m cl is)) place.Point
mesh_part_count (geometry m cl is) o place.Edge = count_placed o (plain_geometry (geometry m cl is)) place.Edge
mesh_part_count (geometry m cl is) o place.Face = count_placed o (plain_geometry (geometry m cl is)) place.Face
mesh_part_count (geometry m cl is) o place.Corner = count_placed o (plain_geometry (geometry m cl is)) place.Corner
mesh_part_count (geometry m cl is) None place.Cloud = refl
mesh_part_count (geometry m cl is) (Some q) place.Cloud = refl
mesh_part_count (geometry m cl is) None place.Instance = refl
mesh_part_count (geometry m cl is) (Some q) place.Instance = refl

-- ---- columns

plain_instance_columns : (is : InstancesView) → columns_of (plain_instances is) ≡ plain_columns (columns_in is)
plain_instance_columns (instances parts items columns) = refl

pub columns_plain : (c : Component) (g : GeometryView) → (part_of c (plain_geometry g)).columns ≡ plain_columns (columns_at c g)
columns_plain Mesh (geometry m cl is) = refl
columns_plain Cloud (geometry m cl is) = refl
columns_plain Instances (geometry m cl is) = plain_instance_columns is

moved_columns : (t : plain.Transform) (is : plain.Instances) → columns_of (moved_instances t is) ≡ columns_of is
moved_columns t (plain.with_columns p columns) = refl

pub instances_keep_columns : (c : Component) (o : Option Placing) (g : plain.Geometry) → same_place (own_place c) place.Instance ≡ true → (part_of c (placed o g)).columns ≡ (part_of c g).columns
instances_keep_columns c None g is = refl
instances_keep_columns Mesh (Some q) g is = cc
instances_keep_columns Cloud (Some q) g is = cc
instances_keep_columns Instances (Some q) g is = moved_columns (plain_transform q.transform) g.instances

none_taken : (n : ℕ) (own more : List Column) → n ≡ 0 → (if n == 0 then own else more) ≡ own
none_taken zero own more h = refl
none_taken (suc n) own more h = cc

some_taken : (n : ℕ) (own more : List Column) → n ≢ 0 → (if n == 0 then own else more) ≡ more
some_taken n own more h =
    let other : (n == 0) ≡ false = elim (eqb_tells n 0) [ inl e ↦ absurd (h e.1) | inr e ↦ e.0 ] in
    ap (λ b. if b then own else more) other

pub none_take_columns : (c : Component) (q : Placing) (g : plain.Geometry) → (part_of c (placed (Some q) g)).component.count (own_place c) ≡ 0 → (part_of c (placed (Some q) g)).columns ≡ (part_of c g).columns
none_take_columns Mesh q g h =
    none_taken (count (placed (Some q) g) place.Point) g.mesh.columns (with_handed place.Point (count (placed (Some q) g) place.Point) q.item g.mesh.columns (plain_columns q.columns.now)) h
none_take_columns Cloud q g h =
    none_taken (count (placed (Some q) g) place.Cloud) g.cloud.columns (with_handed place.Cloud (count (placed (Some q) g) place.Cloud) q.item g.cloud.columns (plain_columns q.columns.now)) h
none_take_columns Instances q g h = moved_columns (plain_transform q.transform) g.instances

pub columns_handed : (c : Component) (q : Placing) (g : plain.Geometry) → same_place (own_place c) place.Instance ≡ false → (part_of c (placed (Some q) g)).component.count (own_place c) ≢ 0
    → (part_of c (placed (Some q) g)).columns ≡ with_handed (own_place c) ((part_of c (placed (Some q) g)).component.count (own_place c)) q.item (part_of c g).columns (plain_columns q.columns.now)
columns_handed Mesh q g other h =
    some_taken (count (placed (Some q) g) place.Point) g.mesh.columns (with_handed place.Point (count (placed (Some q) g) place.Point) q.item g.mesh.columns (plain_columns q.columns.now)) h
columns_handed Cloud q g other h =
    some_taken (count (placed (Some q) g) place.Cloud) g.cloud.columns (with_handed place.Cloud (count (placed (Some q) g) place.Cloud) q.item g.cloud.columns (plain_columns q.columns.now)) h
columns_handed Instances q g other h = cc

-- ---- values on other places

-- the mesh is interpolated as it is anywhere
pub interpolated_placed : (g : GeometryView) (o : Option Placing) (kind : ValueKind) (from to : Place) (value : ℕ → Value) (i : ℕ)
    → (part_of Mesh (placed o (plain_geometry g))).component.interpolated kind from to value i ≡ interpolated (shape_of [] (topology_of (mesh_in g).shape)) kind from to value i
interpolated_placed (geometry m cl is) None kind from to value i = interpolated_anywhere m.shape.points.items [] (topology_of m.shape) kind from to value i
interpolated_placed (geometry m cl is) (Some q) kind from to value i =
    interpolated_anywhere (map (moved_point (plain_transform q.transform)) m.shape.points.items) [] (topology_of m.shape) kind from to value i

-- ---- whether an instance places it or not

pub none_take : (c : Component) (o : Option Placing) (g : plain.Geometry) → (part_of c (placed o g)).component.count (own_place c) ≡ 0 → (part_of c (placed o g)).columns ≡ (part_of c g).columns
none_take c None g h = refl
none_take c (Some q) g h = none_take_columns c q g h

pub some_take : (c : Component) (o : Option Placing) (q : Placing) (g : plain.Geometry) → o ≡ Some q → same_place (own_place c) place.Instance ≡ false → (part_of c (placed o g)).component.count (own_place c) ≢ 0
    → (part_of c (placed o g)).columns ≡ with_handed (own_place c) ((part_of c (placed o g)).component.count (own_place c)) q.item (part_of c g).columns (plain_columns q.columns.now)
some_take c None q g is other h = cc
some_take c (Some r) q g is other h =
    let same : r ≡ q = cc in
    columns_handed c r g other h
    ∙ ap (λ (x : Placing). with_handed (own_place c) ((part_of c (placed (Some r) g)).component.count (own_place c)) x.item (part_of c g).columns (plain_columns x.columns.now)) same
