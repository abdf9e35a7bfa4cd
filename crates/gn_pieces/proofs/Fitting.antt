-- The columns of a join fit it.
use Rattle.std.proofs.Common.{◌≡◌, ℕ, zero, suc, Bool, true, false, cond, List, [], ◌∷◌, length, map, slice_get, Option, Some, None, Result, Ok, Err, OnOk, OnErr, refl, sym, ap, ◌∙◌, subst, arith}
use Rattle.std.specs.Prelude.{unwrap_or, if◌then◌else◌}
use Rattle.std.specs.List.{flat_map}
use Rattle.std.proofs.lemmas.List.{length-append}
use Rattle.std.proofs.lemmas.List.FromFn.{length-map-range_with_len}
use Rattle.std.proofs.lemmas.List.Sums.{sum_by-cons}
use Rattle.gn_value.specs.declared.value.Place.{Place}
use Rattle.gn_value.specs.declared.value.Place.TheVariants as place
use Rattle.gn_value.specs.declared.value.ValueKind.{ValueKind}
use Rattle.gn_plain.specs.Equality.{same_place}
use Rattle.gn_plain.specs.Columns.{Entry, count_of_values, same_name, with_entry}
use Rattle.gn_plain.specs.Contexts.{is_of_mesh}
use Rattle.gn_plain.specs.Geometry.{Geometry, count}
use Rattle.gn_attr.specs.Columns.{values_of, AreSole, IsSoleColumn}
use Rattle.gn_attr.specs.declared.column.Column.{Column}
use Rattle.gn_geometry.specs.Fits.{AreFitting, Fits}
use Rattle.gn_geometry.specs.Geometries.{GeometryView}
use Rattle.gn_geometry.proofs.Fitting.{fit_set}
use Rattle.gn_joins.specs.Joins.{part_values, values_in}
use Rattle.gn_joins.specs.Limits.{count_together}
use Rattle.gn_pieces.specs.declared.view.Component.{Component}
use Rattle.gn_pieces.specs.declared.view.Component.TheVariants.{Mesh, Cloud, Instances}
use Rattle.gn_pieces.specs.declared.view.View.{View}
use Rattle.gn_pieces.specs.Views.{geometry_of, is_place_of, joined_places, own_place, part_of, parts_of, places_of, AreColumnsOf, AreOnPlaces}
use Rattle.gn_pieces.proofs.Behind.{count_in_kind}
use Rattle.gn_pieces.proofs.Placed.{part_count}

-- ---- places

only_there : (n m : ℕ) (b : Bool) → cond b (Some n) None ≡ Some m → b ≡ true
only_there n m true h = refl
only_there n m false h = cc

-- a column that fits is on a place of the component
on_place : (c : Component) (g : GeometryView) (p : Place) (m : ℕ) → places_of c g p ≡ Some m → is_place_of c p ≡ true
on_place Mesh g p m h = only_there _ m (is_of_mesh p) h
on_place Cloud g p m h = only_there _ m (same_place place.Cloud p) h
on_place Instances g p m h = only_there _ m (same_place place.Instance p) h

pub own_on_places : (c : Component) (g : GeometryView) (es : List (Entry Column)) → AreFitting (places_of c g) es → AreOnPlaces c None es
own_on_places c g [] fit = tt
own_on_places c g (e ∷ es) fit = (on_place c g e.place (count_of_values (values_of e.column)) fit.0, own_on_places c g es fit.1)

own_is_place : (c : Component) → is_place_of c (own_place c) ≡ true
own_is_place Mesh = refl
own_is_place Cloud = refl
own_is_place Instances = refl

pub handed_on_places : (c : Component) (es : List (Entry Column)) → AreOnPlaces c (Some (own_place c)) es
handed_on_places c [] = tt
handed_on_places c (e ∷ es) = (own_is_place c, handed_on_places c es)

pub place_at : (c : Component) (on : Option Place) (es : List (Entry Column)) (i : ℕ) (e : Entry Column) → AreOnPlaces c on es → slice_get es i ≡ Some e → is_place_of c (unwrap_or on e.place) ≡ true
place_at c on [] i e all h = cc
place_at c on (x ∷ es) zero e all h = let same : x ≡ e = cc in subst (λ (y : Entry Column). is_place_of c (unwrap_or on y.place) ≡ true) same all.0
place_at c on (x ∷ es) (suc i) e all h = place_at c on es i e all.1 h

-- ---- values

values_long : (h : Entry ValueKind) (c : Component) (gs : List Geometry) → is_place_of c h.place ≡ true → length (flat_map (part_values h) (map (part_of c) gs)) ≡ count_together gs h.place
values_long h c [] own = refl
values_long h c (g ∷ gs) own =
    let here : length (part_values h (part_of c g)) ≡ count g h.place =
    length-map-range_with_len _ 0 ((part_of c g).component.count h.place) ∙ (part_count c g h.place ∙ ap (λ b. if b then count g h.place else 0) own) in
    omega (arith, here, values_long h c gs own, length-append (part_values h (part_of c g)) (flat_map (part_values h) (map (part_of c) gs)), sum_by-cons (λ x. count x h.place) g gs)

-- the values of a name fit the join
pub column_fits : (c : Component) (vs : List View) (h : Entry ValueKind) (column : Column) → is_place_of c h.place ≡ true → values_of column ≡ values_in h.column (flat_map (part_values h) (parts_of c vs)) → Fits (joined_places c vs) h.place column
column_fits c vs h column own values =
    let gs = map geometry_of vs in
    ap (λ b. if b then Some (count_together gs h.place) else None) own
    ∙ ap Some (sym (ap count_of_values values ∙ (count_in_kind h.column (flat_map (part_values h) (parts_of c vs)) ∙ values_long h c gs own)))

-- ---- one more column

sole_by : (x e : Entry Column) (es more : List (Entry Column)) (b : Bool) → IsSoleColumn x.column → IsSoleColumn e.column → AreSole es → AreSole more
    → AreSole (cond b (let r : Entry Column = record { name = e.name; place = x.place; column = x.column } in r ∷ es) (e ∷ more))
sole_by x e es more true new here rest all = (new, rest)
sole_by x e es more false new here rest all = (here, all)

sole_with : (x : Entry Column) (es : List (Entry Column)) → AreSole es → IsSoleColumn x.column → AreSole (with_entry x es)
sole_with x [] sole new = (new, tt)
sole_with x (e ∷ es) sole new = sole_by x e es (with_entry x es) (same_name e.name x.name) new sole.0 sole.1 (sole_with x es sole.1 new)

sole_set : {A E : Type 0} (x : Entry Column) (old now : List (Entry Column)) (r : Result A E) → OnOk r (now ≡ with_entry x old) → OnErr r (now ≡ old) → AreSole old → IsSoleColumn x.column → AreSole now
sole_set x old now (Ok a) ok err sole new = subst AreSole (sym ok) (sole_with x old sole new)
sole_set x old now (Err e) ok err sole new = subst AreSole (sym err) sole

-- a column was put under a name, or nothing changed
pub kept_set : {A E : Type 0} (c : Component) (vs : List View) (x : Entry Column) (old now : List (Entry Column)) (r : Result A E) → OnOk r (now ≡ with_entry x old) → OnErr r (now ≡ old) → AreColumnsOf c vs old
    → IsSoleColumn x.column → Fits (joined_places c vs) x.place x.column → AreColumnsOf c vs now
kept_set c vs x old now r ok err kept sole fits = record { sole = sole_set x old now r ok err kept.sole sole; fit = fit_set (joined_places c vs) x old now r ok err kept.fit fits }
