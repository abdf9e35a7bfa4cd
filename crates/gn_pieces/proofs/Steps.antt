-- One more name, and one more part, in the loops over the columns of a join.
use Rattle.std.proofs.Common.{◌≡◌, ℕ, zero, suc, arith, ◌+◌, ◌<◌, ◌≤◌, true, false, List, [], ◌∷◌, ◌++◌, length, map, take, get_or, slice_get, Option, Some, None, is_some, refl, sym, ap, ◌∙◌}
use Rattle.std.specs.Prelude.{if◌then◌else◌}
use Rattle.std.specs.List.{flat_map, fold}
use Rattle.std.proofs.lemmas.List.{append-nil, append_assoc, map-append, take_more}
use Rattle.std.proofs.lemmas.Option.{get_or_from_slice_get, slice_get_within}
use Rattle.gn_value.specs.declared.vector.V3.{V3}
use Rattle.gn_value.specs.declared.value.Place.{Place}
use Rattle.gn_value.specs.declared.value.ValueKind.{ValueKind}
use Rattle.gn_plain.specs.Columns.{Entry, Values, Column, entry_named, kind_of_values, with_entry}
use Rattle.gn_attr.specs.Columns.{values_of, plain_columns}
use Rattle.gn_attr.specs.declared.column.Column as attr
use Rattle.gn_attr.proofs.Entries.{goes_last}
use Rattle.gn_plain.specs.Geometry.{Geometry}
use Rattle.gn_geometry.specs.Geometries.{GeometryView, geometry, cloud_in, plain_geometry}
use Rattle.gn_joins.specs.Joins.{Part, part_values, values_in}
use Rattle.gn_pieces.specs.declared.view.Component.{Component}
use Rattle.gn_pieces.specs.declared.view.Placing.{Placing}
use Rattle.gn_pieces.specs.declared.view.View.{View}
use Rattle.gn_pieces.specs.Behind.{values_behind}
use Rattle.gn_pieces.specs.Heads.{column_under, head_on, with_joined}
use Rattle.gn_pieces.specs.Views.{geometry_of, moved_points, part_of, parts_of, placed}
use Rattle.gn_pieces.proofs.Behind.{behind_both, behind_nothing, kind_in}
use Rattle.gn_pieces.proofs.Found.{plain_entry}
use Rattle.gn_pieces.proofs.Heads.{joined_both, joined_push}
use Rattle.gn_pieces.proofs.Named.{is_named_over}
use Rattle.gn_pieces.proofs.Totals.{map_take_more}

-- ---- lists of parts

pub flat_more : {X Y : Type 0} (f : X → List Y) (xs : List X) (x : X) → flat_map f (xs ++ x ∷ []) ≡ flat_map f xs ++ f x
flat_more f [] x = append-nil (f x)
flat_more f (y ∷ ys) x = ap (λ zs. f y ++ zs) (flat_more f ys x) ∙ sym (append_assoc (f y) (flat_map f ys) (f x))

pub parts_more : (c : Component) (vs : List View) (i : ℕ) (v : View) → i < length vs → v ≡ get_or vs i v → parts_of c (take (i + 1) vs) ≡ parts_of c (take i vs) ++ part_of c (geometry_of v) ∷ []
parts_more c vs i v below at = ap (map (part_of c)) (map_take_more geometry_of vs i v below at) ∙ map-append (part_of c) (map geometry_of (take i vs)) (geometry_of v ∷ [])

-- ---- one more name in a loop

pub there_already : (ps : List Part) (js : List Column) (h : Entry ValueKind) → is_some (entry_named h.name js) ≡ true → js ≡ with_joined ps js h
there_already ps js h there = ap (λ b. if b then js else js ++ column_under ps h ∷ []) (sym there)

-- a column that goes last
pub joined_last : (ps : List Part) (h : Entry ValueKind) (js now : List (Entry attr.Column)) (column : attr.Column) → entry_named h.name js ≡ None → values_of column ≡ (column_under ps h).column
    → now ≡ with_entry (record { name = h.name; place = h.place; column = column }) js → plain_columns now ≡ with_joined ps (plain_columns js) h
joined_last ps h js now column absent values is =
    let x : Entry attr.Column = record { name = h.name; place = h.place; column = column } in
    let none : is_some (entry_named h.name (plain_columns js)) ≡ false = is_named_over values_of h.name js ∙ ap is_some absent in
    ap plain_columns (is ∙ goes_last x js absent)
    ∙ (map-append plain_entry js (x ∷ [])
    ∙ (ap (λ vs. plain_columns js ++ (let c : Column = record { name = h.name; place = h.place; column = vs } in c ∷ [])) values
    ∙ ap (λ b. if b then plain_columns js else plain_columns js ++ column_under ps h ∷ []) (sym none)))

take_one_more : {X : Type 0} (xs : List X) (i : ℕ) (x : X) → slice_get xs i ≡ Some x → take (i + 1) xs ≡ take i xs ++ x ∷ []
take_one_more xs i x h =
    let within = slice_get_within xs i x h in
    take_more xs i x within ∙ ap (λ y. take i xs ++ y ∷ []) (get_or_from_slice_get xs i x x h)

pub one_more_head : (ps : List Part) (js : List Column) (es : List (Entry attr.Column)) (i : ℕ) (e : Entry attr.Column) (on : Option Place) → slice_get es i ≡ Some e
    → fold (with_joined ps) js (map (head_on on) (plain_columns (take (i + 1) es))) ≡ with_joined ps (fold (with_joined ps) js (map (head_on on) (plain_columns (take i es)))) (head_on on (plain_entry e))
one_more_head ps js es i e on at =
    ap (λ xs. fold (with_joined ps) js (map (head_on on) (plain_columns xs))) (take_one_more es i e at)
    ∙ (ap (λ xs. fold (with_joined ps) js (map (head_on on) xs)) (map-append plain_entry (take i es) (e ∷ []))
    ∙ (ap (fold (with_joined ps) js) (map-append (head_on on) (plain_columns (take i es)) (plain_entry e ∷ []))
    ∙ joined_push ps js (map (head_on on) (plain_columns (take i es))) (head_on on (plain_entry e))))

-- one more view
pub one_more_view : (ps : List Part) (js : List Column) (c : Component) (vs : List View) (i : ℕ) (v : View) → i < length vs → v ≡ get_or vs i v
    → fold (with_joined ps) js (map (head_on None) (flat_map (λ p. p.columns) (parts_of c (take (i + 1) vs))))
    ≡ fold (with_joined ps) (fold (with_joined ps) js (map (head_on None) (flat_map (λ p. p.columns) (parts_of c (take i vs))))) (map (head_on None) (part_of c (geometry_of v)).columns)
one_more_view ps js c vs i v below at =
    ap (λ qs. fold (with_joined ps) js (map (head_on None) (flat_map (λ p. p.columns) qs))) (parts_more c vs i v below at)
    ∙ (ap (λ es. fold (with_joined ps) js (map (head_on None) es)) (flat_more (λ p. p.columns) (parts_of c (take i vs)) (part_of c (geometry_of v)))
    ∙ (ap (fold (with_joined ps) js) (map-append (head_on None) (flat_map (λ p. p.columns) (parts_of c (take i vs))) (part_of c (geometry_of v)).columns)
    ∙ joined_both ps js (map (head_on None) (flat_map (λ p. p.columns) (parts_of c (take i vs)))) (map (head_on None) (part_of c (geometry_of v)).columns)))

-- the values of one more view
pub one_more_value : (kind : ValueKind) (h : Entry ValueKind) (now after : Values) (c : Component) (vs : List View) (i : ℕ) (v : View) → h.column ≡ kind → i < length vs → v ≡ get_or vs i v
    → now ≡ values_in kind (flat_map (part_values h) (parts_of c (take i vs))) → after ≡ values_behind now (part_values (record { name = h.name; place = h.place; column = kind_of_values now }) (part_of c (geometry_of v)))
    → after ≡ values_in kind (flat_map (part_values h) (parts_of c (take (i + 1) vs)))
one_more_value kind h now after c vs i v kinds below at so_far is =
    let p = part_of c (geometry_of v) in
    let before = flat_map (part_values h) (parts_of c (take i vs)) in
    let same : kind_of_values now ≡ h.column = ap kind_of_values so_far ∙ (kind_in kind before ∙ sym kinds) in
    let all : flat_map (part_values h) (parts_of c (take (i + 1) vs)) ≡ before ++ part_values h p =
    ap (flat_map (part_values h)) (parts_more c vs i v below at) ∙ flat_more (part_values h) (parts_of c (take i vs)) p in
    is
    ∙ (ap (λ k. values_behind now (part_values (let x : Entry ValueKind = record { name = h.name; place = h.place; column = k } in x) p)) same
    ∙ (ap (λ xs. values_behind xs (part_values h p)) so_far
    ∙ (ap (λ xs. values_behind xs (part_values h p)) (sym (behind_nothing kind before))
    ∙ (behind_both (values_in kind []) before (part_values h p)
    ∙ (behind_nothing kind (before ++ part_values h p) ∙ ap (values_in kind) (sym all))))))

-- ---- points

cloud_points : (o : Option Placing) (g : GeometryView) → (placed o (plain_geometry g)).cloud.points ≡ moved_points o (cloud_in g).points.items
cloud_points None (geometry m cl is) = refl
cloud_points (Some q) (geometry m cl is) = refl

-- the points of one more view
pub one_more_points : (vs : List View) (i : ℕ) (v : View) (ps after qs : List V3) → i < length vs → v ≡ get_or vs i v → qs ≡ (cloud_in v.geometry.now).points.items
    → ps ≡ flat_map (λ g. g.cloud.points) (map geometry_of (take i vs)) → after ≡ ps ++ moved_points v.placing qs → after ≡ flat_map (λ g. g.cloud.points) (map geometry_of (take (i + 1) vs))
one_more_points vs i v ps after qs below at points so_far is =
    is
    ∙ (ap (λ xs. ps ++ moved_points v.placing xs) points
    ∙ (ap (λ xs. ps ++ xs) (sym (cloud_points v.placing v.geometry.now))
    ∙ (ap (λ xs. xs ++ (geometry_of v).cloud.points) so_far
    ∙ (sym (flat_more (λ (g : Geometry). g.cloud.points) (map geometry_of (take i vs)) (geometry_of v)) ∙ ap (flat_map (λ (g : Geometry). g.cloud.points)) (sym (map_take_more geometry_of vs i v below at))))))

-- ---- whole lists

pub take_whole : {X : Type 0} (xs : List X) (i : ℕ) → length xs ≤ i → take i xs ≡ xs
take_whole [] zero h = refl
take_whole [] (suc i) h = refl
take_whole (x ∷ xs) zero h = absurd (omega (arith, h))
take_whole (x ∷ xs) (suc i) h = ap (λ ys. x ∷ ys) (take_whole xs i (omega (arith, h)))
