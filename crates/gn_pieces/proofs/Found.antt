-- A column that is found under a name in a part.
use Rattle.std.proofs.Common.{◌≡◌, ℕ, Bool, true, false, List, Option, Some, None, Result, Ok, Err, OnOk, option_map, is_some, replicate, refl, sym, ap, ◌∙◌, subst}
use Rattle.std.specs.Prelude.{◌==◌, if◌then◌else◌}
use Rattle.gn_value.specs.Values.{zero_of}
use Rattle.gn_value.specs.declared.value.Place.{Place}
use Rattle.gn_value.specs.declared.value.Place.TheVariants as place
use Rattle.gn_plain.specs.Columns.{Name, Entry, Values, Column, count_of_values, entry_named, kind_of_values}
use Rattle.gn_plain.specs.Geometry as plain
use Rattle.gn_plain.specs.Geometry.{count}
use Rattle.gn_attr.specs.Columns.{values_of, found_of, plain_columns}
use Rattle.gn_attr.specs.declared.column.Column as attr
use Rattle.gn_geometry.specs.Fits.{AreFitting, Fits}
use Rattle.gn_geometry.specs.Geometries.{GeometryView, plain_geometry}
use Rattle.gn_joins.specs.Joins.{Part, part_values}
use Rattle.gn_joins.specs.Realized.{repeated, with_handed}
use Rattle.gn_pieces.specs.declared.view.Component.{Component}
use Rattle.gn_pieces.specs.declared.view.Component.TheVariants.{Mesh, Cloud, Instances}
use Rattle.gn_pieces.specs.declared.view.Placing.{Placing}
use Rattle.gn_pieces.specs.Behind.{values_behind, values_on}
use Rattle.gn_pieces.specs.Views.{columns_at, own_place, part_of, placed, places_of}
use Rattle.gn_pieces.proofs.Behind.{count_repeated}
use Rattle.gn_pieces.proofs.Named.{handed_column, handed_next, is_named_over, named_over, own_first}
use Rattle.gn_pieces.proofs.Placed.{columns_plain, instances_keep_columns, own_places}
use Rattle.gn_pieces.proofs.Reading.{found_fits, values_absent, values_found}

-- ---- results

pub on_any : {A E : Type 0} (r : Result A E) (Q : Type 0) → Q → OnOk r Q
on_any (Ok a) Q q = q
on_any (Err e) Q q = tt

pub on_err : {A E : Type 0} (r : Result A E) (Q : Type 0) (e : E) → r ≡ Err e → OnOk r Q
on_err r Q e is = subst (λ x. OnOk x Q) (sym is) tt

pub on_ok : {A E : Type 0} (r : Result A E) (P Q : Type 0) → OnOk r P → (P → Q) → OnOk r Q
on_ok (Ok a) P Q p f = f p
on_ok (Err e) P Q p f = tt

-- ---- look-ups

pub is_none : {A : Type 0} (o : Option A) → is_some o ≡ false → o ≡ None
is_none None h = refl
is_none (Some x) h = cc

module _ {A : Type 0} (f : A → Place × attr.Column) where
  -- nothing is found
  pub found_none : (r : Option A) (o : Option (Entry attr.Column)) → option_map f r ≡ option_map found_of o → r ≡ None → o ≡ None
  found_none None None h is = refl
  found_none None (Some e) h is = cc
  found_none (Some a) o h is = cc

  -- what is found
  pub found_some : (r : Option A) (o : Option (Entry attr.Column)) (a : A) → option_map f r ≡ option_map found_of o → r ≡ Some a → (e : Entry attr.Column) × (o ≡ Some e) × (e.place ≡ (f a).0) × (e.column ≡ (f a).1)
  found_some None o a h is = cc
  found_some (Some b) None a h is = cc
  found_some (Some b) (Some e) a h is =
      let same : b ≡ a = cc in
      let pair : f b ≡ found_of e = cc in
      let all : found_of e ≡ f a = sym pair ∙ ap f same in
      (e, refl, ap (λ (p : Place × attr.Column). p.0) all, ap (λ (p : Place × attr.Column). p.1) all)

  pub found_like : (r : Option A) (o : Option (Entry attr.Column)) → option_map f r ≡ option_map found_of o → is_some r ≡ is_some o
  found_like None None h = refl
  found_like None (Some e) h = cc
  found_like (Some a) None h = cc
  found_like (Some a) (Some e) h = refl

abbrev pub plain_entry : Entry attr.Column → Column
plain_entry e = record { name = e.name; place = e.place; column = values_of e.column }

-- ---- a part's own column

found_first : (name : Name) (p : Place) (n k : ℕ) (own cs : List Column) (e : Column) → entry_named name own ≡ Some e → entry_named name (if n == 0 then own else with_handed p n k own cs) ≡ Some e
found_first name p n k own cs e found = by_test (n == 0)
  where
    by_test : (b : Bool) → entry_named name (if b then own else with_handed p n k own cs) ≡ Some e
    by_test true = found
    by_test false = own_first name p n k own cs (ap is_some found) ∙ found

own_in_part : (c : Component) (o : Option Placing) (g : plain.Geometry) (name : Name) (e : Column) → entry_named name (part_of c g).columns ≡ Some e → entry_named name (part_of c (placed o g)).columns ≡ Some e
own_in_part c None g name e found = found
own_in_part Mesh (Some q) g name e found = found_first name place.Point (count (placed (Some q) g) place.Point) q.item g.mesh.columns (plain_columns q.columns.now) e found
own_in_part Cloud (Some q) g name e found = found_first name place.Cloud (count (placed (Some q) g) place.Cloud) q.item g.cloud.columns (plain_columns q.columns.now) e found
own_in_part Instances (Some q) g name e found = ap (entry_named name) (instances_keep_columns Instances (Some q) g refl) ∙ found

pub own_found : (c : Component) (o : Option Placing) (g : GeometryView) (name : Name) (e : Entry attr.Column) → entry_named name (columns_at c g) ≡ Some e
    → entry_named name (part_of c (placed o (plain_geometry g))).columns ≡ Some (plain_entry e)
own_found c o g name e found =
    own_in_part c o (plain_geometry g) name (plain_entry e)
    (ap (entry_named name) (columns_plain c g) ∙ (named_over values_of name (columns_at c g) ∙ ap (option_map plain_entry) found))

-- the values that are read are those under the name
pub named_values : (xs after : Values) (p : Part) (name : Name) (from to : Place) (column : Values) (e : Column) → entry_named name p.columns ≡ Some e → e.place ≡ from → e.column ≡ column
    → after ≡ values_behind xs (values_on p from to column) → after ≡ values_behind xs (part_values (record { name = name; place = to; column = kind_of_values xs }) p)
named_values xs after p name from to column e found places columns is =
    is
    ∙ (ap (λ q. values_behind xs (values_on p q to column)) (sym places)
    ∙ (ap (λ vs. values_behind xs (values_on p e.place to vs)) (sym columns) ∙ values_found xs p name to e found))

-- zeros are those under a name that is not there
pub zero_values : (xs after : Values) (p : Part) (name : Name) (to : Place) (n : ℕ) → entry_named name p.columns ≡ None → n ≡ p.component.count to → after ≡ values_behind xs (replicate n (zero_of (kind_of_values xs)))
    → after ≡ values_behind xs (part_values (record { name = name; place = to; column = kind_of_values xs }) p)
zero_values xs after p name to n absent many is =
    is ∙ (ap (λ m. values_behind xs (replicate m (zero_of (kind_of_values xs)))) many ∙ values_absent xs p name to absent)

-- ---- a column that is handed on

module _ (p : Part) (name : Name) (pl : Place) (n k : ℕ) (own cs : List (Entry attr.Column)) (is : p.columns ≡ with_handed pl n k (plain_columns own) (plain_columns cs)) (absent : entry_named name own ≡ None) where
  none_own : is_some (entry_named name (plain_columns own)) ≡ false
  none_own = is_named_over values_of name own ∙ ap is_some absent

  pub handed_absent : entry_named name cs ≡ None → entry_named name p.columns ≡ None
  handed_absent none =
      ap (entry_named name) is
      ∙ (handed_next name pl n k (plain_columns cs) (plain_columns own) none_own
      ∙ ap (option_map (handed_column pl n k)) (named_over values_of name cs ∙ ap (option_map plain_entry) none))

  pub handed_found : (e : Entry attr.Column) → entry_named name cs ≡ Some e → entry_named name p.columns ≡ Some (handed_column pl n k (plain_entry e))
  handed_found e found =
      ap (entry_named name) is
      ∙ (handed_next name pl n k (plain_columns cs) (plain_columns own) none_own
      ∙ ap (option_map (handed_column pl n k)) (named_over values_of name cs ∙ ap (option_map plain_entry) found))

pub absent_alone : (p : Part) (name : Name) (own : List (Entry attr.Column)) → p.columns ≡ plain_columns own → entry_named name own ≡ None → entry_named name p.columns ≡ None
absent_alone p name own is absent = ap (entry_named name) is ∙ (named_over values_of name own ∙ ap (option_map plain_entry) absent)

-- a column that is repeated for each element of its place fits
pub handed_fits : (c : Component) (g : GeometryView) (o : Option Placing) (from : Place) (n k : ℕ) (column : attr.Column) (values : Values) → from ≡ own_place c → n ≡ (part_of c (placed o (plain_geometry g))).component.count from
    → values_of column ≡ repeated n k values → Fits (places_of c g) from column
handed_fits c g o from n k column values places many is =
    let count = (part_of c (placed o (plain_geometry g))).component.count in
    ap (places_of c g) places
    ∙ (own_places c g o
    ∙ ap Some (ap count (sym places) ∙ (sym many ∙ (sym (count_repeated n k values) ∙ ap count_of_values (sym is)))))

pub fits_found : (count : Place → Option ℕ) (name : Name) (es : List (Entry attr.Column)) (e : Entry attr.Column) (p : Place) (column : attr.Column) → AreFitting count es → entry_named name es ≡ Some e → e.place ≡ p → e.column ≡ column
    → Fits count p column
fits_found count name es e p column fit found places columns =
    subst (λ q. Fits count q column) places (subst (λ x. Fits count e.place x) columns (found_fits count name es e fit found))
