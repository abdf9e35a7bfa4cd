-- The values of a part under a name.
use Rattle.std.proofs.Common.{◌≡◌, ℕ, Bool, true, false, cond, List, [], ◌∷◌, length, map, replicate, Option, Some, None, refl, sym, ap, ◌∙◌, subst, arith}
use Rattle.std.specs.Prelude.{if◌then◌else◌}
use Rattle.std.specs.List.{range_with_len}
use Rattle.std.proofs.lemmas.List.{length-map}
use Rattle.gn_value.specs.Values.{zero_of}
use Rattle.gn_value.specs.declared.vector.V3.{V3}
use Rattle.gn_value.specs.declared.value.Value.{Value}
use Rattle.gn_value.specs.declared.value.ValueKind.{ValueKind}
use Rattle.gn_value.specs.declared.value.Place.{Place}
use Rattle.gn_value.specs.declared.value.Place.TheVariants as place
use Rattle.gn_plain.specs.Equality.{same_place}
use Rattle.gn_plain.specs.Columns.{Name, Entry, Values, Column, entry_named, kind_of_values, count_of_values, value_of}
use Rattle.gn_plain.specs.Contexts.{column_or, is_of_mesh}
use Rattle.gn_plain.specs.Geometry.{Geometry, Shape, count_in}
use Rattle.gn_plain.specs.Interpolation.{combined, interpolated, one_suffices, sources}
use Rattle.gn_plain.specs.Topology.{Topology, IsValid, shape_of, edge_of}
use Rattle.gn_attr.specs.Columns.{values_of}
use Rattle.gn_attr.specs.declared.column.Column as attr
use Rattle.gn_geom.specs.Meshes.{plain_of, topology_of}
use Rattle.gn_geometry.specs.Fits.{AreFitting, Fits}
use Rattle.gn_geometry.specs.Geometries.{GeometryView, mesh_in, plain_geometry}
use Rattle.gn_geometry.specs.Meshes.{MeshView}
use Rattle.gn_geometry.proofs.Counts.{face_count, corner_count}
use Rattle.gn_interp.specs.Gathered.{count_on, IsAdapted}
use Rattle.gn_interp.specs.Takings.{unplaced}
use Rattle.gn_joins.specs.Joins.{Part, part_values}
use Rattle.gn_pieces.specs.declared.view.Component.{Component}
use Rattle.gn_pieces.specs.declared.view.Component.TheVariants.{Mesh, Cloud, Instances}
use Rattle.gn_pieces.specs.declared.view.Placing.{Placing}
use Rattle.gn_pieces.specs.Behind.{first_values, values_behind, values_on}
use Rattle.gn_pieces.specs.Views.{has_one_place, part_of, placed, places_of}
use Rattle.gn_pieces.proofs.Behind.{converted_behind, map_range_like, replicated}
use Rattle.gn_pieces.proofs.Placed.{interpolated_placed, mesh_part_count}

-- ---- columns that fit

fit_by : (count : Place → Option ℕ) (name : Name) (e f : Entry attr.Column) (es : List (Entry attr.Column)) (b : Bool) → cond b (Some e) (entry_named name es) ≡ Some f → Fits count e.place e.column
    → (entry_named name es ≡ Some f → Fits count f.place f.column) → Fits count f.place f.column
fit_by count name e f es true found fits rest = let same : e ≡ f = cc in subst (λ (x : Entry attr.Column). Fits count x.place x.column) same fits
fit_by count name e f es false found fits rest = rest found

-- a column that is found fits
pub found_fits : (count : Place → Option ℕ) (name : Name) (es : List (Entry attr.Column)) (f : Entry attr.Column) → AreFitting count es → entry_named name es ≡ Some f → Fits count f.place f.column
found_fits count name [] f fit found = cc
found_fits count name (e ∷ es) f fit found = fit_by count name e f es _ found fit.0 (λ there. found_fits count name es f fit.1 there)

length_edges : (es : List (ℕ × ℕ)) → length (map edge_of es) ≡ length es
length_edges es = length-map es edge_of

-- how many elements a mesh has on a place
pub count_in_on : (points : List V3) (t : Topology) (p : Place) → IsValid t → length points ≡ t.points → count_in (shape_of points t) p ≡ count_on t p
count_in_on points t place.Point valid many = many
count_in_on points t place.Edge valid many = length_edges t.edges
count_in_on points t place.Face valid many = face_count points t valid
count_in_on points t place.Corner valid many = corner_count points t valid
count_in_on points t place.Cloud valid many = refl
count_in_on points t place.Instance valid many = refl

some_count : (n m : ℕ) (b : Bool) → cond b (Some n) None ≡ Some m → n ≡ m
some_count n m true h = let same : Some n ≡ Some m = h in cc
some_count n m false h = cc

-- a column that fits has a value for each element
pub fits_on : (g : GeometryView) (p : Place) (c : attr.Column) → IsValid (topology_of (mesh_in g).shape) → Fits (places_of Mesh g) p c → count_of_values (values_of c) ≡ count_on (topology_of (mesh_in g).shape) p
fits_on g p c valid fits =
    let s = (mesh_in g).shape in
    sym (some_count (count_in (plain_of s) p) (count_of_values (values_of c)) (is_of_mesh p) fits) ∙ count_in_on s.points.items (topology_of s) p valid refl

-- ---- values on a place

-- where there is one place, and on its own place, a column stays as it is
pub on_one_place : (c : Component) (g : Geometry) (from to : Place) (column : Values) → has_one_place c ≡ true → first_values column ((part_of c g).component.count to) ≡ values_on (part_of c g) from to column
on_one_place Mesh g from to column h = cc
on_one_place Cloud g from to column h = refl
on_one_place Instances g from to column h = refl

same_is_kept : (s : Shape) (kind : ValueKind) (from to : Place) (value : ℕ → Value) (i : ℕ) → same_place from to ≡ true → interpolated s kind from to value i ≡ value i
same_is_kept s kind from to value i same = ap (λ b. if b then value i else combined kind (one_suffices from to) (map value (sources from to s i))) same

pub on_same_place : (g : GeometryView) (o : Option Placing) (from to : Place) (column : Values) → same_place from to ≡ true
    → first_values column ((part_of Mesh (placed o (plain_geometry g))).component.count to) ≡ values_on (part_of Mesh (placed o (plain_geometry g))) from to column
on_same_place g o from to column same =
    map_range_like _ _ ((part_of Mesh (placed o (plain_geometry g))).component.count to) 0
    (λ i below.
    sym (interpolated_placed g o (kind_of_values column) from to (value_of column) i
    ∙ same_is_kept (shape_of [] (topology_of (mesh_in g).shape)) (kind_of_values column) from to (value_of column) i same))

-- values that were adapted
pub on_other_place : (g : GeometryView) (o : Option Placing) (t : Topology) (from to : Place) (column after : Values) → topology_of (mesh_in g).shape ≡ t → IsValid t
    → IsAdapted (unplaced t) from to (count_on t to) column after
    → first_values after ((part_of Mesh (placed o (plain_geometry g))).component.count to) ≡ values_on (part_of Mesh (placed o (plain_geometry g))) from to column
on_other_place g o t from to column after same valid adapted =
    let s = (mesh_in g).shape in
    let valid_here : IsValid (topology_of s) = subst IsValid (sym same) valid in
    let many : (part_of Mesh (placed o (plain_geometry g))).component.count to ≡ count_on t to =
    mesh_part_count g o to ∙ (count_in_on s.points.items (topology_of s) to valid_here refl ∙ ap (λ u. count_on u to) same) in
    map_range_like _ _ ((part_of Mesh (placed o (plain_geometry g))).component.count to) 0
    (λ i below.
    adapted.values (value_of column) (λ j within. refl) i (omega (arith, below, many))
    ∙ sym (interpolated_placed g o (kind_of_values column) from to (value_of column) i ∙ ap (λ u. interpolated (unplaced u) (kind_of_values column) from to (value_of column) i) same))

-- ---- values under a name

-- those of the column of that name
pub values_found : (xs : Values) (p : Part) (name : Name) (to : Place) (c : Column) → entry_named name p.columns ≡ Some c
    → values_behind xs (values_on p c.place to c.column) ≡ values_behind xs (part_values (record { name = name; place = to; column = kind_of_values xs }) p)
values_found xs p name to c found =
    let count = p.component.count to in
    sym (converted_behind xs (p.component.interpolated (kind_of_values c.column) c.place to (value_of c.column)) (range_with_len 0 count))
    ∙ ap (λ (o : Option Column). values_behind xs (map (column_or (λ i. zero_of (kind_of_values xs)) p.component.interpolated o (kind_of_values xs) to) (range_with_len 0 count))) (sym found)

-- without one they are zero
pub values_absent : (xs : Values) (p : Part) (name : Name) (to : Place) → entry_named name p.columns ≡ None
    → values_behind xs (replicate (p.component.count to) (zero_of (kind_of_values xs))) ≡ values_behind xs (part_values (record { name = name; place = to; column = kind_of_values xs }) p)
values_absent xs p name to absent =
    let count = p.component.count to in
    ap (values_behind xs) (replicated count 0 (zero_of (kind_of_values xs)))
    ∙ ap (λ (o : Option Column). values_behind xs (map (column_or (λ i. zero_of (kind_of_values xs)) p.component.interpolated o (kind_of_values xs) to) (range_with_len 0 count))) (sym absent)

-- ---- values that are adapted

-- a column that fits has as many values as the topology asks for
pub fits_adapted : (c : Component) (g : GeometryView) (m : MeshView) (t : Topology) (from : Place) (column : attr.Column) → has_one_place c ≡ false → m ≡ mesh_in g → t ≡ topology_of m.shape → IsValid (topology_of m.shape)
    → Fits (places_of c g) from column → count_of_values (values_of column) ≡ count_on t from
fits_adapted Mesh g m t from column one mesh is valid fits =
    let here : topology_of m.shape ≡ topology_of (mesh_in g).shape = ap (λ (x : MeshView). topology_of x.shape) mesh in
    fits_on g from column (subst IsValid here valid) fits ∙ ap (λ u. count_on u from) (sym (is ∙ here))
fits_adapted Cloud g m t from column one mesh is valid fits = cc
fits_adapted Instances g m t from column one mesh is valid fits = cc

pub adapted_values : (c : Component) (g : GeometryView) (o : Option Placing) (m : MeshView) (t : Topology) (from to : Place) (column after : Values) (n : ℕ) → has_one_place c ≡ false → m ≡ mesh_in g → t ≡ topology_of m.shape
    → IsValid (topology_of m.shape) → IsAdapted (unplaced t) from to (count_on t to) column after → n ≡ (part_of c (placed o (plain_geometry g))).component.count to
    → first_values after n ≡ values_on (part_of c (placed o (plain_geometry g))) from to column
adapted_values Mesh g o m t from to column after n one mesh is valid adapted many =
    let here : topology_of m.shape ≡ topology_of (mesh_in g).shape = ap (λ (x : MeshView). topology_of x.shape) mesh in
    ap (first_values after) many ∙ on_other_place g o t from to column after (sym (is ∙ here)) (subst IsValid (sym is) valid) adapted
adapted_values Cloud g o m t from to column after n one mesh is valid adapted many = cc
adapted_values Instances g o m t from to column after n one mesh is valid adapted many = cc

-- on its own place a column stays as it is, and so does one of a component with one place
pub same_values : (c : Component) (g : GeometryView) (o : Option Placing) (from to : Place) (column : Values) (n : ℕ) → same_place from to ≡ true → n ≡ (part_of c (placed o (plain_geometry g))).component.count to
    → first_values column n ≡ values_on (part_of c (placed o (plain_geometry g))) from to column
same_values Mesh g o from to column n same many = ap (first_values column) many ∙ on_same_place g o from to column same
same_values Cloud g o from to column n same many = ap (first_values column) many ∙ on_one_place Cloud (placed o (plain_geometry g)) from to column refl
same_values Instances g o from to column n same many = ap (first_values column) many ∙ on_one_place Instances (placed o (plain_geometry g)) from to column refl

pub only_values : (c : Component) (g : Geometry) (from to : Place) (column : Values) (n : ℕ) → has_one_place c ≡ true → n ≡ (part_of c g).component.count to → first_values column n ≡ values_on (part_of c g) from to column
only_values c g from to column n one many = ap (first_values column) many ∙ on_one_place c g from to column one
