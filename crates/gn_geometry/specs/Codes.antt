-- How the logic stores a geometry.
use Rattle.std.specs.Prelude.{◌≡◌, ℕ, List, refl}
use Rattle.std.proofs.Common.{ap}
use Rattle.std.specs.Coded.{Coded, coded×, coded_ℕ, coded_list}
use base.Stored.{Gv, gnil, gnum, gcons}
use Rattle.gn_plain.specs.Columns.{Entry}
use Rattle.gn_attr.specs.declared.column.Column.{Column}
use Rattle.gn_attr.specs.contracts.columns.Columns as columns
use Rattle.gn_geometry.specs.declared.geometry.Transform.{Transform}
use Rattle.gn_geometry.specs.contracts.geometry.Transform as transform
use Rattle.gn_geometry.specs.contracts.mesh.Mesh as mesh_row
use Rattle.gn_geometry.specs.contracts.cloud.Cloud as cloud_row
use Rattle.gn_geometry.specs.Meshes.{MeshView}
use Rattle.gn_geometry.specs.Clouds.{CloudView}
use Rattle.gn_geometry.specs.Geometries.{GeometryView, geometry, InstancesView, instances, Parts, no_parts, part}

abbrev Components : Type 0
Components = MeshView × CloudView

abbrev components : Coded Components
components = coded× mesh_row.the_row.coded cloud_row.the_row.coded

abbrev Flat : Type 0
Flat = List (Transform × ℕ) × List (Entry Column)

abbrev flat : Coded Flat
flat = coded× (coded_list (coded× transform.the_row.coded coded_ℕ)) columns.the_row.coded

abbrev mutual
  pub geometry_gv : GeometryView → Gv
  geometry_gv (geometry mesh cloud placed) = gcons (components.code (mesh, cloud)) (instances_gv placed)

  pub instances_gv : InstancesView → Gv
  instances_gv (instances parts items cols) = gcons (flat.code (items, cols)) (parts_gv parts)

  pub parts_gv : Parts → Gv
  parts_gv no_parts = gnil
  parts_gv (part g gs) = gcons (geometry_gv g) (parts_gv gs)

abbrev head : Gv → Gv
head gnil = gnil
head (gnum n) = gnil
head (gcons a b) = a

abbrev tail : Gv → Gv
tail gnil = gnil
tail (gnum n) = gnil
tail (gcons a b) = b

mutual
  pub geometry_inj : (x y : GeometryView) → geometry_gv x ≡ geometry_gv y → x ≡ y
  geometry_inj (geometry m c is) (geometry m' c' is') p =
      let f : ◌≡◌ {A = Components} (m, c) (m', c') = components.inj (m, c) (m', c') (ap head p) in
      λ i. geometry (f i).0 (f i).1 (instances_inj is is' (ap tail p) i)

  pub instances_inj : (x y : InstancesView) → instances_gv x ≡ instances_gv y → x ≡ y
  instances_inj (instances ps is ks) (instances ps' is' ks') p =
      let f : ◌≡◌ {A = Flat} (is, ks) (is', ks') = flat.inj (is, ks) (is', ks') (ap head p) in
      λ i. instances (parts_inj ps ps' (ap tail p) i) (f i).0 (f i).1

  pub parts_inj : (x y : Parts) → parts_gv x ≡ parts_gv y → x ≡ y
  parts_inj no_parts no_parts p = refl
  parts_inj no_parts (part g gs) p = cc
  parts_inj (part g gs) no_parts p = cc
  parts_inj (part g gs) (part h hs) p = λ i. part (geometry_inj g h (ap head p) i) (parts_inj gs hs (ap tail p) i)

abbrev pub geometry_code : Coded GeometryView
geometry_code = record { code = geometry_gv; inj = geometry_inj }

abbrev pub instances_code : Coded InstancesView
instances_code = record { code = instances_gv; inj = instances_inj }
