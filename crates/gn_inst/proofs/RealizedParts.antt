-- Geometry whose instances are realised, as a join of what they place.
use Rattle.std.proofs.Common.{◌≡◌, ℕ, zero, suc, ◌+◌, ◌<◌, List, [], ◌∷◌, ◌++◌, length, map, take, get_or, refl, sym, ap, subst, ◌∙◌, arith}
use Rattle.std.specs.Prelude.{slice_index}
use Rattle.std.specs.List.{All, sum_by}
use Rattle.std.proofs.lemmas.List.{length-map, length-take-le, take_more}
use Rattle.std.proofs.lemmas.List.Elements.{All-cons, All-head, All-nil, All-tail}
use Rattle.std.proofs.lemmas.List.Sums.{sum_by-cons}
use Rattle.gn_value.specs.declared.value.Place.{Place}
use Rattle.gn_value.specs.declared.value.Place.TheVariants as place
use Rattle.gn_plain.specs.Columns.{Column}
use Rattle.gn_plain.specs.Geometry as plain
use Rattle.gn_plain.specs.Geometry.{count, transforms, placed_in}
use Rattle.gn_attr.specs.Columns.{plain_columns}
use Rattle.gn_geometry.specs.declared.geometry.Transform.{Transform}
use Rattle.gn_geometry.specs.Geometries.{GeometryView, geometry, instances, columns_in, instances_in, items_in, parts_in, placed_by, plain_geometry, plain_transform}
use Rattle.gn_joins.specs.Joins.{joined}
use Rattle.gn_joins.specs.Limits.{count_together}
use Rattle.gn_joins.specs.Realized.{realized, realized_parts}
use Rattle.gn_joins.specs.Transforms.{moved_instances, moved_placed, moved_point}
use Rattle.gn_joins.proofs.Counts.{count_joined}
use Rattle.gn_joins.proofs.Moved.{get_map}
use Rattle.gn_inst.specs.Realizing.{capped, capped_count, own, placed_part, placed_parts}
use Rattle.gn_join.proofs.Gathered.{plain_list}

abbrev pub Item : Type 0
Item = Transform × ℕ

abbrev IsNamed : ℕ → Item → Type 0
IsNamed count i = i.1 < count

-- the part that an item names is realised in the second list
abbrev pub IsRealized : List plain.Geometry → List plain.Geometry → Item → Type 0
IsRealized parts done i = get_or done i.1 plain.empty ≡ realized (get_or parts i.1 plain.empty)

-- ---- what instances place

parts_are : (columns : List Column) (k : ℕ) (items : List Item) (parts done : List plain.Geometry) → All (IsRealized parts done) items → realized_parts columns k (placed_by items parts) ≡ placed_parts columns k items done
parts_are columns k [] parts done all = refl
parts_are columns k (i ∷ items) parts done all =
    let here = sym (All-head (IsRealized parts done) i items all) in
    let rest = parts_are columns (suc k) items parts done (All-tail (IsRealized parts done) i items all) in
    λ j. placed_part columns k (here j) i.0 ∷ rest j

pub realized_is : (g : GeometryView) (done : List plain.Geometry) → All (IsRealized (map plain_geometry (parts_in (instances_in g))) done) (items_in (instances_in g))
    → realized (plain_geometry g) ≡ joined (own (plain_geometry g) ∷ placed_parts (plain_columns (columns_in (instances_in g))) 0 (items_in (instances_in g)) done)
realized_is (geometry m c (instances parts items columns)) done all =
    let named = subst (λ ps. All (IsRealized ps done) items) (sym (plain_list parts)) all in
    ap (λ gs. joined (own (plain_geometry (geometry m c (instances parts items columns))) ∷ gs)) (parts_are (plain_columns columns) 0 items _ done named)

-- ---- how many elements there are

moved_count : (t : plain.Transform) (p : plain.Placed) → length (transforms (moved_placed t p)) ≡ length (transforms p)
moved_count t plain.none_placed = refl
moved_count t (plain.and_placed inner mesh cloud is p) = ap suc (moved_count t p)

moved_instance_count : (t : plain.Transform) (is : plain.Instances) → length (transforms (placed_in (moved_instances t is))) ≡ length (transforms (placed_in is))
moved_instance_count t (plain.with_columns p columns) = moved_count t p

part_count : (columns : List Column) (k : ℕ) (g : plain.Geometry) (t : Transform) (p : Place) → count (placed_part columns k g t) p ≡ count g p
part_count columns k g t place.Point = length-map g.mesh.shape.points (moved_point (plain_transform t))
part_count columns k g t place.Edge = refl
part_count columns k g t place.Face = refl
part_count columns k g t place.Corner = refl
part_count columns k g t place.Cloud = length-map g.cloud.points (moved_point (plain_transform t))
part_count columns k g t place.Instance = moved_instance_count (plain_transform t) g.instances

abbrev pub named_count : Place → List plain.Geometry → Item → ℕ
named_count p done i = count (get_or done i.1 plain.empty) p

parts_count : (p : Place) (columns : List Column) (k : ℕ) (items : List Item) (done : List plain.Geometry) → count_together (placed_parts columns k items done) p ≡ sum_by (named_count p done) items
parts_count p columns k [] done = refl
parts_count p columns k (i ∷ items) done =
    let here = part_count columns k (get_or done i.1 plain.empty) i.0 p in
    let rest = parts_count p columns (suc k) items done in
    sum_by-cons (λ g. count g p) (placed_part columns k (get_or done i.1 plain.empty) i.0) (placed_parts columns (suc k) items done)
    ∙ ((λ j. here j + rest j) ∙ sym (sum_by-cons (named_count p done) i items))

-- realised, a geometry has its own elements and those of the parts that its items name
pub realized_elements : (g : GeometryView) (done : List plain.Geometry) (p : Place) → All (IsRealized (map plain_geometry (parts_in (instances_in g))) done) (items_in (instances_in g))
    → count (realized (plain_geometry g)) p ≡ count (own (plain_geometry g)) p + sum_by (named_count p done) (items_in (instances_in g))
realized_elements g done p all =
    let columns = plain_columns (columns_in (instances_in g)) in
    let items = items_in (instances_in g) in
    ap (λ x. count x p) (realized_is g done all)
    ∙ (count_joined (own (plain_geometry g) ∷ placed_parts columns 0 items done) p
    ∙ (sum_by-cons (λ x. count x p) (own (plain_geometry g)) (placed_parts columns 0 items done) ∙ ap (λ n. count (own (plain_geometry g)) p + n) (parts_count p columns 0 items done)))

-- all parts realised
pub all_realized : (items : List Item) (parts : List plain.Geometry) → All (IsNamed (length parts)) items → All (IsRealized parts (map realized parts)) items
all_realized [] parts named = All-nil (IsRealized parts (map realized parts))
all_realized (i ∷ items) parts named =
    All-cons (IsRealized parts (map realized parts)) i items (get_map realized parts i.1 plain.empty plain.empty (All-head (IsNamed (length parts)) i items named)) (all_realized items parts (All-tail (IsNamed (length parts)) i items named))

-- ---- numbers that stop at a bound

capped_first : (a b c : ℕ) → capped ((a + capped b) + c) ≡ capped ((a + b) + c)
capped_first a b c = omega arith

capped_sum : (a : ℕ) (f h : Item → ℕ) (items : List Item) → All (λ i. h i ≡ capped (f i)) items → capped (a + sum_by h items) ≡ capped (a + sum_by f items)
capped_sum a f h [] all = refl
capped_sum a f h (i ∷ items) all =
    let here = All-head (λ j. h j ≡ capped (f j)) i items all in
    let rest = capped_sum (a + capped (f i)) f h items (All-tail (λ j. h j ≡ capped (f j)) i items all) in
    let left : a + sum_by h (i ∷ items) ≡ (a + capped (f i)) + sum_by h items = omega (arith, sum_by-cons h i items, here) in
    let right : (a + f i) + sum_by f items ≡ a + sum_by f (i ∷ items) = omega (arith, sum_by-cons f i items) in
    ap capped left ∙ (rest ∙ (capped_first a (f i) (sum_by f items) ∙ ap capped right))

-- the numbers of parts, each of which stops, add up to a number that stops
pub counts_together : (g : GeometryView) (p : Place) → All (IsNamed (length (parts_in (instances_in g)))) (items_in (instances_in g))
    → capped (count (own (plain_geometry g)) p + sum_by (λ i. slice_index (map (capped_count p) (parts_in (instances_in g))) i.1) (items_in (instances_in g))) ≡ capped_count p g
counts_together g p named =
    let parts = parts_in (instances_in g) in
    let items = items_in (instances_in g) in
    let plain_parts = map plain_geometry parts in
    let named_plain = subst (λ n. All (IsNamed n) items) (sym (length-map parts plain_geometry)) named in
    capped_sum (count (own (plain_geometry g)) p) (named_count p (map realized plain_parts)) (λ i. slice_index (map (capped_count p) parts) i.1) items (all_capped items named)
    ∙ ap capped (sym (realized_elements g (map realized plain_parts) p (all_realized items plain_parts named_plain)))
  where
    one_capped : (ps : List GeometryView) (k : ℕ) → k < length ps → slice_index (map (capped_count p) ps) k ≡ capped (count (get_or (map realized (map plain_geometry ps)) k plain.empty) p)
    one_capped [] k below = absurd (omega (arith, below))
    one_capped (q ∷ ps) zero below = refl
    one_capped (q ∷ ps) (suc k) below = one_capped ps k (omega (arith, below))

    all_capped : (is : List Item) → All (IsNamed (length (parts_in (instances_in g)))) is
        → All (λ i. slice_index (map (capped_count p) (parts_in (instances_in g))) i.1 ≡ capped (named_count p (map realized (map plain_geometry (parts_in (instances_in g)))) i)) is
    all_capped is all = λ j d below. one_capped (parts_in (instances_in g)) (get_or is j d).1 (all j d below)

-- ---- one more item, and one more name

parts_more : (columns : List Column) (k : ℕ) (items : List Item) (done : List plain.Geometry) (i : Item) → placed_parts columns k (items ++ i ∷ []) done ≡ placed_parts columns k items done ++ placed_part columns (k + length items) (get_or done i.1 plain.empty) i.0 ∷ []
parts_more columns k [] done i = let at : k ≡ k + 0 = omega arith in ap (λ n. placed_part columns n (get_or done i.1 plain.empty) i.0 ∷ []) at
parts_more columns k (j ∷ items) done i =
    let at : suc k + length items ≡ k + suc (length items) = omega arith in
    ap (λ gs. placed_part columns k (get_or done j.1 plain.empty) j.0 ∷ gs)
    (parts_more columns (suc k) items done i ∙ ap (λ n. placed_parts columns (suc k) items done ++ placed_part columns n (get_or done i.1 plain.empty) i.0 ∷ []) at)

-- one more part as an item places it
pub one_more_part : (columns : List Column) (items : List Item) (done : List plain.Geometry) (n : ℕ) (i : Item) → n < length items → i ≡ get_or items n i
    → placed_parts columns 0 (take (n + 1) items) done ≡ placed_parts columns 0 (take n items) done ++ placed_part columns n (get_or done i.1 plain.empty) i.0 ∷ []
one_more_part columns items done n i below at =
    let long : 0 + length (take n items) ≡ n = omega (arith, length-take-le n items (omega (arith, below))) in
    ap (λ is. placed_parts columns 0 is done) (take_more items n i below ∙ ap (λ (x : Item). take n items ++ x ∷ []) (sym at))
    ∙ (parts_more columns 0 (take n items) done i ∙ ap (λ m. placed_parts columns 0 (take n items) done ++ placed_part columns m (get_or done i.1 plain.empty) i.0 ∷ []) long)
