-- Realised geometry has no instances, and few elements where what it is part of has few.
use Rattle.std.proofs.Common.{◌≡◌, inl, inr, ℕ, suc, ◌+◌, ◌<◌, ◌≤◌, Bool, true, false, List, [], ◌∷◌, ◌++◌, length, map, set, take, get_or, None, refl, sym, ap, subst, ◌∙◌, arith}
use Rattle.std.specs.Prelude.{◌==◌, ◌||◌}
use Rattle.std.specs.List.{All, flat_map, fold, list_any, sum_by}
use Rattle.std.proofs.lemmas.Bool.Decides.{eqb_tells}
use Rattle.std.proofs.lemmas.List.{get_or-set_other, get_or-set_same, length-map, take_more}
use Rattle.std.proofs.lemmas.List.Folds.{list_any-append}
use Rattle.std.proofs.lemmas.List.Elements.{All-cons, All-head, All-nil, All-tail}
use Rattle.std.proofs.lemmas.List.Sums.{sum_by-cons}
use Rattle.gn_plain.specs.Columns.{Column}
use Rattle.gn_plain.specs.Geometry as plain
use Rattle.gn_plain.specs.Geometry.{count, no_instances, placed_in}
use Rattle.gn_geometry.specs.declared.geometry.Transform.{Transform}
use Rattle.gn_geometry.specs.Geometries.{GeometryView, instances_in, items_in, parts_in, plain_geometry}
use Rattle.gn_joins.specs.Joins.{Part, instance_part, joined_columns, joined_instances, joined_placed, part_values, placed_behind, values_in, with_head}
use Rattle.gn_joins.specs.Limits.{all_places, first_over}
use Rattle.gn_joins.specs.Realized.{realized, realized_of, realized_parts, with_columns_of}
use Rattle.gn_joins.specs.Transforms.{moved, moved_instances}
use Rattle.gn_joins.proofs.Moved.{get_map}
use Rattle.gn_inst.specs.Realizing.{is_named}
use Rattle.gn_join.proofs.Few.{fewer}
use Rattle.gn_inst.proofs.RealizedParts.{all_realized, realized_elements}

-- ---- no instances

abbrev HasNone : plain.Geometry → Type 0
HasNone g = g.instances ≡ no_instances

none_placed_in : (gs : List plain.Geometry) → All HasNone gs → joined_placed (map (λ g. placed_in g.instances) gs) ≡ plain.none_placed
none_placed_in [] all = refl
none_placed_in (g ∷ gs) all =
    ap (λ is. placed_behind (placed_in is) (joined_placed (map (λ g. placed_in g.instances) gs))) (All-head HasNone g gs all) ∙ none_placed_in gs (All-tail HasNone g gs all)

no_columns_in : (gs : List plain.Geometry) → All HasNone gs → flat_map (λ p. p.columns) (map instance_part gs) ≡ []
no_columns_in [] all = refl
no_columns_in (g ∷ gs) all = ap (λ is. plain.columns_of is ++ flat_map (λ p. p.columns) (map instance_part gs)) (All-head HasNone g gs all) ∙ no_columns_in gs (All-tail HasNone g gs all)

no_joined_columns : (ps : List Part) → flat_map (λ p. p.columns) ps ≡ [] → joined_columns ps ≡ []
no_joined_columns ps none =
    ap (λ cs. map (λ h. record { name = h.name; place = h.place; column = values_in h.column (flat_map (part_values h) ps) }) (fold with_head [] cs)) none

pub joined_none : (gs : List plain.Geometry) → All HasNone gs → joined_instances gs ≡ no_instances
joined_none gs all = let placed = none_placed_in gs all in let columns = no_joined_columns (map instance_part gs) (no_columns_in gs all) in λ i. plain.with_columns (placed i) (columns i)

mutual
  realized_none : (mesh : plain.Mesh) (cloud : plain.Cloud) (is : plain.Instances) → HasNone (realized_of mesh cloud is)
  realized_none mesh cloud (plain.with_columns placed columns) =
      joined_none (record { mesh = mesh; cloud = cloud; instances = no_instances } ∷ realized_parts columns 0 placed)
      (All-cons HasNone (record { mesh = mesh; cloud = cloud; instances = no_instances }) (realized_parts columns 0 placed) refl (parts_none columns 0 placed))

  parts_none : (columns : List Column) (k : ℕ) (placed : plain.Placed) → All HasNone (realized_parts columns k placed)
  parts_none columns k plain.none_placed = All-nil HasNone
  parts_none columns k (plain.and_placed t mesh cloud is placed) =
      All-cons HasNone (with_columns_of k columns (moved t (realized_of mesh cloud is))) (realized_parts columns (suc k) placed)
      (ap (moved_instances t) (realized_none mesh cloud is)) (parts_none columns (suc k) placed)

pub has_no_instances : (g : plain.Geometry) → (realized g).instances ≡ no_instances
has_no_instances g = realized_none g.mesh g.cloud g.instances

-- ---- parts that items name

abbrev pub Item : Type 0
Item = Transform × ℕ

same_number : (a b : ℕ) → (a == b) ≡ true → a ≡ b
same_number a b h = elim (eqb_tells a b) [ inl e ↦ e.1 | inr e ↦ (let no : true ≡ false = sym h ∙ e.0 in cc) ]

-- a number of a part that is named is one of those that add up
counted_by : (f : ℕ → ℕ) (i : Item) (items : List Item) (k : ℕ) (b : Bool) → (i.1 == k) ≡ b → (b || list_any (λ j. j.1 == k) items) ≡ true → (list_any (λ j. j.1 == k) items ≡ true → f k ≤ sum_by (λ j. f j.1) items)
    → f k ≤ sum_by (λ j. f j.1) (i ∷ items)
counted_by f i items k true is named rest =
    let same : f i.1 ≡ f k = ap f (same_number i.1 k is) in
    omega (arith, same, sum_by-cons (λ (j : Item). f j.1) i items)
counted_by f i items k false is named rest = omega (arith, rest named, sum_by-cons (λ (j : Item). f j.1) i items)

counted : (f : ℕ → ℕ) (items : List Item) (k : ℕ) → is_named items k ≡ true → f k ≤ sum_by (λ j. f j.1) items
counted f [] k named = cc
counted f (i ∷ items) k named = counted_by f i items k (i.1 == k) refl named (λ h. counted f items k h)

-- a part that an item names has few elements where all together have few
pub part_few : (g : GeometryView) (k : ℕ) → All (λ i. i.1 < length (parts_in (instances_in g))) (items_in (instances_in g)) → k < length (parts_in (instances_in g)) → is_named (items_in (instances_in g)) k ≡ true
    → first_over (count (realized (plain_geometry g))) all_places ≡ None → first_over (count (realized (get_or (map plain_geometry (parts_in (instances_in g))) k plain.empty))) all_places ≡ None
part_few g k names within named none =
    let items = items_in (instances_in g) in
    let parts = map plain_geometry (parts_in (instances_in g)) in
    let done = map realized parts in
    let names_plain = subst (λ n. All (λ (i : Item). i.1 < n) items) (sym (length-map (parts_in (instances_in g)) plain_geometry)) names in
    let within_plain : k < length parts = omega (arith, within, length-map (parts_in (instances_in g)) plain_geometry) in
    fewer (count (realized (get_or parts k plain.empty))) (count (realized (plain_geometry g))) all_places
    (λ p.
    let all = realized_elements g done p (all_realized items parts names_plain) in
    let one = counted (λ m. count (get_or done m plain.empty) p) items k named in
    let here : count (get_or done k plain.empty) p ≡ count (realized (get_or parts k plain.empty)) p = ap (λ x. count x p) (get_map realized parts k plain.empty plain.empty within_plain) in
    omega (arith, all, one, here))
    none

-- one more name
pub one_more_name : (xs : List Bool) (items : List Item) (n : ℕ) (i : Item) (count : ℕ) → length xs ≡ count → n < length items → i ≡ get_or items n i → ((k : ℕ) → k < count → get_or xs k false ≡ is_named (take n items) k)
    → (k : ℕ) → k < count → get_or (set xs i.1 true) k false ≡ is_named (take (n + 1) items) k
one_more_name xs items n i count long below at so_far k within =
    let more : is_named (take (n + 1) items) k ≡ (is_named (take n items) k || ((i.1 == k) || false)) =
    ap (λ is. is_named is k) (take_more items n i below ∙ ap (λ (x : Item). take n items ++ x ∷ []) (sym at)) ∙ list_any-append (λ (j : Item). j.1 == k) (take n items) (i ∷ []) in
    elim (eqb_tells i.1 k) [
      | inl e ↦ (let inside : i.1 < length xs = omega (arith, e.1, long, within) in
          ap (λ m. get_or (set xs i.1 true) m false) (sym e.1) ∙ (get_or-set_same xs i.1 true false inside ∙ (sym (or_true (is_named (take n items) k)) ∙ (ap (λ b. is_named (take n items) k || (b || false)) (sym e.0) ∙ sym more))))
      | inr e ↦ get_or-set_other xs i.1 k true false (λ same. e.1 (sym same)) ∙ (so_far k within ∙ (sym (or_false (is_named (take n items) k)) ∙ (ap (λ b. is_named (take n items) k || (b || false)) (sym e.0) ∙ sym more)))
    ]
  where
    or_true : (b : Bool) → (b || (true || false)) ≡ true
    or_true true = refl
    or_true false = refl

    or_false : (b : Bool) → (b || (false || false)) ≡ b
    or_false true = refl
    or_false false = refl
