-- Realised parts, one after another, and the join that they make.
use Rattle.std.proofs.Common.{◌≡◌, inl, inr, ℕ, zero, suc, ◌+◌, ◌<◌, ◌≤◌, ◌^◌, Bool, true, false, List, [], ◌∷◌, ◌++◌, length, map, take, get_or, None, refl, sym, ap, subst, ◌∙◌, arith}
use Rattle.std.specs.Prelude.{◌==◌, ◌||◌}
use Rattle.std.specs.List.{All, sum_by}
use Rattle.std.proofs.lemmas.Bool.{cases_eq}
use Rattle.std.proofs.lemmas.Bool.Decides.{eqb_tells}
use Rattle.std.proofs.lemmas.List.{get_or_append_left, get_or_read, length-map, length_push, map-append, take_more}
use Rattle.std.proofs.lemmas.List.Sums.{sum_by_push}
use Rattle.gn_value.specs.declared.value.Place.{Place}
use Rattle.gn_value.specs.declared.value.Place.TheVariants as place
use Rattle.gn_plain.specs.Columns.{Column}
use Rattle.gn_plain.specs.Geometry as plain
use Rattle.gn_plain.specs.Geometry.{count, no_instances}
use Rattle.gn_attr.specs.Columns.{plain_columns}
use Rattle.gn_geometry.specs.Clouds as clouds
use Rattle.gn_geometry.specs.Clouds.{CloudView, plain_cloud}
use Rattle.gn_geometry.specs.Geometries.{GeometryView, InstancesView, geometry, instances, no_parts, parts_of, columns_in, instances_in, items_in, parts_in, plain_geometry, AreSoleInstances, IsSole}
use Rattle.gn_geometry.specs.Meshes as meshes
use Rattle.gn_geometry.specs.Meshes.{MeshView, plain_mesh}
use Rattle.gn_joins.specs.Joins.{joined, joined_cloud, joined_mesh}
use Rattle.gn_joins.specs.Limits.{all_places, count_together, first_over}
use Rattle.gn_joins.specs.Realized.{realized}
use Rattle.gn_joins.proofs.Counts.{count_joined}
use Rattle.gn_joins.proofs.Moved.{get_map}
use Rattle.gn_pieces.specs.declared.view.View.{View}
use Rattle.gn_pieces.specs.Lists.{mesh_places}
use Rattle.gn_pieces.specs.Views.{geometry_of}
use Rattle.gn_inst.specs.Realizing.{capped, is_named, own, placed_part, placed_parts, AreRealized}
use Rattle.gn_join.proofs.Few.{cloud_few, fewer, mesh_few}
use Rattle.gn_inst.proofs.RealizedParts.{one_more_part, realized_is}
use Rattle.gn_inst.proofs.Realized.{has_no_instances, part_few, Item}

-- ---- views of parts

pub one_more_placed : (start : plain.Geometry) (parts : List GeometryView) (items : List Item) (columns : List Column) (n : ℕ) (i : Item) (q : GeometryView) (v : View) (vs ws : List View) → n < length items → i ≡ get_or items n i → i.1 < length parts → q ≡ get_or parts i.1 q
    → ws ≡ vs ++ v ∷ [] → geometry_of v ≡ placed_part columns n (plain_geometry q) i.0 → map geometry_of vs ≡ start ∷ placed_parts columns 0 (take n items) (map plain_geometry parts)
    → map geometry_of ws ≡ start ∷ placed_parts columns 0 (take (n + 1) items) (map plain_geometry parts)
one_more_placed start parts items columns n i q v vs ws below at within here is made so_far =
    let part : plain_geometry q ≡ get_or (map plain_geometry parts) i.1 plain.empty = ap plain_geometry here ∙ sym (get_map plain_geometry parts i.1 q plain.empty within) in
    ap (map geometry_of) is
    ∙ (map-append geometry_of vs (v ∷ [])
    ∙ (ap (λ gs. gs ++ geometry_of v ∷ []) so_far
    ∙ ap (λ gs. start ∷ gs)
    (ap (λ (x : plain.Geometry). placed_parts columns 0 (take n items) (map plain_geometry parts) ++ x ∷ []) (made ∙ ap (λ (x : plain.Geometry). placed_part columns n x i.0) part)
    ∙ sym (one_more_part columns items (map plain_geometry parts) n i below at))))

-- ---- parts that are named

named_by : (items : List Item) (i : Item) (k : ℕ) (b : Bool) → is_named items k ≡ true → (b || is_named items k) ≡ true
named_by items i k true h = refl
named_by items i k false h = h

itself : (n : ℕ) → (n == n) ≡ true
itself n = elim (eqb_tells n n) [ inl e ↦ e.0 | inr e ↦ absurd (e.1 refl) ]

-- an item names its part
named_self : (items : List Item) (j : ℕ) (d : Item) → j < length items → is_named items (get_or items j d).1 ≡ true
named_self [] j d lt = absurd (omega (arith, lt))
named_self (i ∷ items) zero d lt = ap (λ b. b || is_named items i.1) (itself i.1)
named_self (i ∷ items) (suc j) d lt = named_by items i (get_or items j d).1 (i.1 == (get_or items j d).1) (named_self items j d (omega (arith, lt)))

-- the parts up to a number are realised where they are named
abbrev pub AreDone : GeometryView → List GeometryView → ℕ → Type 0
AreDone g all at =
    (k : ℕ) → k < at → is_named (items_in (instances_in g)) k ≡ true → get_or (map plain_geometry all) k plain.empty ≡ realized (get_or (map plain_geometry (parts_in (instances_in g))) k plain.empty)

get_last : (all : List GeometryView) (q : GeometryView) → get_or (map plain_geometry (all ++ q ∷ [])) (length all) plain.empty ≡ plain_geometry q
get_last [] q = refl
get_last (x ∷ all) q = get_last all q

-- one more part is there, which is realised where it is named
pub one_more_done : (g : GeometryView) (all : List GeometryView) (q : GeometryView) (at : ℕ) → length all ≡ at
    → (is_named (items_in (instances_in g)) at ≡ true → plain_geometry q ≡ realized (get_or (map plain_geometry (parts_in (instances_in g))) at plain.empty)) → AreDone g all at → AreDone g (all ++ q ∷ []) (at + 1)
one_more_done g all q at long new done k below named =
    elim (cases_eq k (length all)) [
      | inl same ↦ (let here : k ≡ at = same ∙ long in
          ap (λ n. get_or (map plain_geometry (all ++ q ∷ [])) n plain.empty) same ∙ (get_last all q ∙ (new (subst (λ n. is_named (items_in (instances_in g)) n ≡ true) here named) ∙ ap (λ n. realized (get_or (map plain_geometry (parts_in (instances_in g))) n plain.empty)) (sym here))))
      | inr other ↦ (let inside : k < length (map plain_geometry all) = omega (arith, below, other, long, length-map all plain_geometry) in
          let before : k < at = omega (arith, below, other, long) in
          ap (λ gs. get_or gs k plain.empty) (map-append plain_geometry all (q ∷ [])) ∙ (get_or_append_left (map plain_geometry all) (plain_geometry q ∷ []) plain.empty k inside ∙ done k before named))
    ]

pub all_done : (g : GeometryView) (all : List GeometryView) (at : ℕ) → length (parts_in (instances_in g)) ≤ at → All (λ i. i.1 < length (parts_in (instances_in g))) (items_in (instances_in g)) → AreDone g all at → AreRealized g all
all_done g all at whole within done = record {
  parts = λ j d lt. let inside = within j d lt in done (get_or (items_in (instances_in g)) j d).1 (omega (arith, inside, whole)) (named_self (items_in (instances_in g)) j d lt);
}

-- what was found for a part is whether an item names it
pub named_at : (items all : List Item) (named : List Bool) (n at : ℕ) (b : Bool) → items ≡ all → length named ≡ n → at < n → b ≡ get_or named at b → ((k : ℕ) → k < n → get_or named k false ≡ is_named items k) → b ≡ is_named all at
named_at items all named n at b same long below here found =
    let within : at < length named = omega (arith, long, below) in
    get_or_read named at b within here false ∙ (found at below ∙ ap (λ (is : List Item). is_named is at) same)

-- a part that is gone over, and whether it is realised
module _ (g : GeometryView) (ps : List GeometryView) (k : ℕ) (q : GeometryView) (b : Bool) (same : ps ≡ parts_in (instances_in g)) (below : k < length ps) (at : q ≡ get_or ps k q) (is_b : b ≡ is_named (items_in (instances_in g)) k) where
  part_at : plain_geometry q ≡ get_or (map plain_geometry (parts_in (instances_in g))) k plain.empty
  part_at = ap plain_geometry at ∙ (sym (get_map plain_geometry ps k q plain.empty below) ∙ ap (λ (xs : List GeometryView). get_or (map plain_geometry xs) k plain.empty) same)

  pub part_is_few : All (λ i. i.1 < length (parts_in (instances_in g))) (items_in (instances_in g)) → first_over (count (realized (plain_geometry g))) all_places ≡ None → b ≡ true → first_over (count (realized (plain_geometry q))) all_places ≡ None
  part_is_few within few wanted =
      let there : k < length (parts_in (instances_in g)) = subst (λ (xs : List GeometryView). k < length xs) same below in
      subst (λ (x : plain.Geometry). first_over (count (realized x)) all_places ≡ None) (sym part_at) (part_few g k within there (sym is_b ∙ wanted) few)

  pub part_is_done : (x : GeometryView) → (b ≡ true → plain_geometry x ≡ realized (plain_geometry q)) → is_named (items_in (instances_in g)) k ≡ true → plain_geometry x ≡ realized (get_or (map plain_geometry (parts_in (instances_in g))) k plain.empty)
  part_is_done x done named = done (is_b ∙ named) ∙ ap realized part_at

pub one_more_realized : (g : GeometryView) (all now : List GeometryView) (x : GeometryView) (at : ℕ) → now ≡ all ++ x ∷ [] → (is_named (items_in (instances_in g)) at ≡ true → plain_geometry x ≡ realized (get_or (map plain_geometry (parts_in (instances_in g))) at plain.empty)) → (length all ≡ at) × AreDone g all at
    → (length now ≡ at + 1) × AreDone g now (at + 1)
one_more_realized g all now x at is new on =
    subst (λ (xs : List GeometryView). (length xs ≡ at + 1) × AreDone g xs (at + 1)) (sym is) (length_push all x ∙ ap (λ n. n + 1) on.0, one_more_done g all x at on.0 new on.1)

-- ---- the join

module _ (g : GeometryView) (done parts : List GeometryView) (views : List View) (all : AreRealized g done) (same_parts : parts ≡ done)
    (made : map geometry_of views ≡ plain_geometry g ∷ placed_parts (plain_columns (columns_in (instances_in g))) 0 (items_in (instances_in g)) (map plain_geometry parts)) where
  abbrev rest : List plain.Geometry
  rest = placed_parts (plain_columns (columns_in (instances_in g))) 0 (items_in (instances_in g)) (map plain_geometry done)

  same : (vs : List View) → vs ≡ views → map geometry_of vs ≡ plain_geometry g ∷ rest
  same vs is = ap (map geometry_of) is ∙ (made ∙ ap (λ (ps : List GeometryView). plain_geometry g ∷ placed_parts (plain_columns (columns_in (instances_in g))) 0 (items_in (instances_in g)) (map plain_geometry ps)) same_parts)

  whole : realized (plain_geometry g) ≡ joined (own (plain_geometry g) ∷ rest)
  whole = realized_is g (map plain_geometry done) all.parts

  counts : (p : Place) → count_together (own (plain_geometry g) ∷ rest) p ≤ count (realized (plain_geometry g)) p
  counts p = let equal : count (realized (plain_geometry g)) p ≡ count_together (own (plain_geometry g) ∷ rest) p = ap (λ x. count x p) whole ∙ count_joined (own (plain_geometry g) ∷ rest) p in omega (arith, equal)

  own_few : first_over (count (realized (plain_geometry g))) all_places ≡ None → first_over (count_together (own (plain_geometry g) ∷ rest)) all_places ≡ None
  own_few few = fewer (count_together (own (plain_geometry g) ∷ rest)) (count (realized (plain_geometry g))) all_places counts few

  pub sides_few : (vs : List View) → vs ≡ views → first_over (count (realized (plain_geometry g))) all_places ≡ None → first_over (count_together (map geometry_of vs)) mesh_places ≡ None
  sides_few vs is few = ap (λ gs. first_over (count_together gs) mesh_places) (same vs is) ∙ mesh_few (count_together (own (plain_geometry g) ∷ rest)) (own_few few)

  pub points_below : (vs : List View) → vs ≡ views → first_over (count (realized (plain_geometry g))) all_places ≡ None → count_together (map geometry_of vs) place.Cloud < 2 ^ 32
  points_below vs is few =
      let below = cloud_few (count_together (own (plain_geometry g) ∷ rest)) (own_few few) in
      let equal : count_together (map geometry_of vs) place.Cloud ≡ count_together (own (plain_geometry g) ∷ rest) place.Cloud = ap (λ gs. count_together gs place.Cloud) (same vs is) in
      omega (arith, below, equal)

  pub whole_is : (m : MeshView) (c : CloudView) (vs ws : List View) → vs ≡ views → ws ≡ views → plain_mesh m ≡ joined_mesh (map geometry_of vs) → plain_cloud c ≡ joined_cloud (map geometry_of ws)
      → ◌≡◌ {A = plain.Geometry} (record { mesh = plain_mesh m; cloud = plain_cloud c; instances = no_instances }) (realized (plain_geometry g))
  whole_is m c vs ws is_vs is_ws mesh cloud =
      let meshes : plain_mesh m ≡ joined_mesh (own (plain_geometry g) ∷ rest) = mesh ∙ ap joined_mesh (same vs is_vs) in
      let clouds : plain_cloud c ≡ joined_cloud (own (plain_geometry g) ∷ rest) = cloud ∙ ap joined_cloud (same ws is_ws) in
      let none : no_instances ≡ (joined (own (plain_geometry g) ∷ rest)).instances = sym (has_no_instances (plain_geometry g)) ∙ ap (λ (x : plain.Geometry). x.instances) whole in
      let parts_are : ◌≡◌ {A = plain.Geometry} (record { mesh = plain_mesh m; cloud = plain_cloud c; instances = no_instances }) (joined (own (plain_geometry g) ∷ rest)) = λ i. record { mesh = meshes i; cloud = clouds i; instances = none i } in
      parts_are ∙ sym whole

-- ---- no instances

module _ (m : MeshView) (c : CloudView) (is : InstancesView) (parts : List GeometryView) (items : List Item) (made : is ≡ instances (parts_of parts) items []) (no_parts_are : parts ≡ []) (no_items : items ≡ []) where
  nothing : is ≡ instances no_parts [] []
  nothing = made ∙ (λ j. instances (parts_of (no_parts_are j)) (no_items j) [])

  pub nothing_placed : ◌≡◌ {A = plain.Geometry} (plain_geometry (geometry m c is)) (record { mesh = plain_mesh m; cloud = plain_cloud c; instances = no_instances })
  nothing_placed = ap (λ (x : InstancesView). plain_geometry (geometry m c x)) nothing

  pub nothing_shared : meshes.IsSole m → clouds.IsSole c → IsSole (geometry m c is)
  nothing_shared mesh cloud = (mesh, cloud, subst AreSoleInstances (sym nothing) (tt, tt))

-- ---- numbers that add up

capped_more : (a b c before after : ℕ) → before ≡ capped (a + b) → after ≡ capped (before + c) → after ≡ capped (a + (b + c))
capped_more a b c before after so_far is = omega (arith, so_far, is)

-- the number of one more item's part
pub total_more : (f : Item → ℕ) (start : ℕ) (items : List Item) (n : ℕ) (i : Item) (before after : ℕ) → n < length items → i ≡ get_or items n i → before ≡ capped (start + sum_by f (take n items)) → after ≡ capped (before + f i)
    → after ≡ capped (start + sum_by f (take (n + 1) items))
total_more f start items n i before after below at so_far is =
    let more : sum_by f (take (n + 1) items) ≡ sum_by f (take n items) + f i =
    ap (sum_by f) (take_more items n i below) ∙ (sum_by_push f (take n items) (get_or items n i) ∙ ap (λ (x : Item). sum_by f (take n items) + f x) (sym at)) in
    capped_more start (sum_by f (take n items)) (f i) before after so_far is ∙ ap (λ m. capped (start + m)) (sym more)
