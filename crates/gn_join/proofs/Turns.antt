-- One more geometry in the loops over lists that are taken apart.
use Rattle.std.proofs.Common.{◌≡◌, ℕ, zero, suc, ◌+◌, ◌<◌, ◌^◌, List, [], ◌∷◌, ◌++◌, length, map, take, get_or, refl, sym, ap, ◌∙◌, arith}
use Rattle.std.proofs.lemmas.List.{length-append, length-map, map-append, take_more}
use Rattle.gn_value.specs.declared.value.Place.TheVariants as place
use Rattle.gn_plain.specs.Geometry as plain
use Rattle.gn_plain.specs.Geometry.{Placed, placed_in}
use Rattle.gn_geometry.specs.Geometries.{GeometryView, geometry, instances_in, items_in, plain_geometry, plain_instances}
use Rattle.gn_geometry.proofs.Placed.{instances_count}
use Rattle.gn_joins.specs.Joins.{joined_placed, placed_behind}
use Rattle.gn_joins.specs.Limits.{count_together}
use Rattle.gn_pieces.proofs.Totals.{first_counted, map_take_more, one_more_counted}
use Rattle.gn_join.specs.declared.placed.Slot.{Slot}
use Rattle.gn_join.specs.declared.placed.Slot.TheVariants.{Waiting}
use Rattle.gn_join.specs.Gathering.{part_in, slots_of, AreNumbered, IsBelow}
use Rattle.gn_join.proofs.Gathered.{joined_more}

push_long : {X : Type 0} (ys : List X) (y : X) → length (ys ++ y ∷ []) ≡ length ys + 1
push_long ys y = length-append ys (y ∷ [])

-- ---- parts that wait

pub slots_more : (ps ys : List GeometryView) (g : GeometryView) (before after : List Slot) → length ys < length ps → g ≡ get_or ps (length ys) g → before ≡ slots_of (take (length ys) ps) → after ≡ before ++ Waiting g ∷ []
    → after ≡ slots_of (take (length (ys ++ g ∷ [])) ps)
slots_more ps ys g before after below at so_far is =
    let more : take (length (ys ++ g ∷ [])) ps ≡ take (length ys) ps ++ g ∷ [] =
    ap (λ n. take n ps) (push_long ys g) ∙ (take_more ps (length ys) g below ∙ ap (λ (x : GeometryView). take (length ys) ps ++ x ∷ []) (sym at)) in
    is ∙ (ap (λ xs. xs ++ Waiting g ∷ []) so_far ∙ (sym (map-append Waiting (take (length ys) ps) (g ∷ [])) ∙ ap slots_of (sym more)))

pub slots_long : (ps : List GeometryView) (parts : List GeometryView) (slots : List Slot) → map (part_in parts) slots ≡ map plain_geometry ps → length slots ≡ length ps
slots_long ps parts slots same = sym (length-map slots (part_in parts)) ∙ (ap length same ∙ length-map ps plain_geometry)

-- each part waits for itself
pub parts_waiting : (parts ps : List GeometryView) → map (part_in parts) (slots_of ps) ≡ map plain_geometry ps
parts_waiting parts [] = refl
parts_waiting parts (p ∷ ps) = ap (λ gs. plain_geometry p ∷ gs) (parts_waiting parts ps)

pub none_numbered : (parts ps : List GeometryView) → AreNumbered parts (slots_of ps)
none_numbered parts [] = λ k d lt. absurd (omega (arith, lt))
none_numbered parts (p ∷ ps) = λ k d lt. waits ps p k d lt
  where
    waits : (qs : List GeometryView) (q : GeometryView) (k : ℕ) (d : Slot) → k < length (slots_of (q ∷ qs)) → IsBelow (length parts) (get_or (slots_of (q ∷ qs)) k d)
    waits qs q zero d lt = tt
    waits [] q (suc k) d lt = absurd (omega (arith, lt))
    waits (r ∷ qs) q (suc k) d lt = waits qs r k d (omega (arith, lt))

-- ---- geometries one after another

instances_plain : (g : GeometryView) → (plain_geometry g).instances ≡ plain_instances (instances_in g)
instances_plain (geometry m c is) = refl

module _ (gs ys : List GeometryView) (g : GeometryView) (below : length ys < length gs) (at : g ≡ get_or gs (length ys) g) where
  taken : take (length (ys ++ g ∷ [])) gs ≡ take (length ys + 1) gs
  taken = ap (λ n. take n gs) (push_long ys g)

  -- the instances of one more geometry
  pub joined_next : (before after : Placed) → before ≡ joined_placed (map (λ x. placed_in x.instances) (map plain_geometry (take (length ys) gs))) → after ≡ placed_behind before (placed_in (plain_instances (instances_in g)))
      → after ≡ joined_placed (map (λ x. placed_in x.instances) (map plain_geometry (take (length (ys ++ g ∷ [])) gs)))
  joined_next before after so_far is =
      let firsts = map (λ (x : plain.Geometry). placed_in x.instances) (map plain_geometry (take (length ys) gs)) in
      let all : map (λ (x : plain.Geometry). placed_in x.instances) (map plain_geometry (take (length (ys ++ g ∷ [])) gs)) ≡ firsts ++ placed_in (plain_geometry g).instances ∷ [] =
      ap (λ xs. map (λ (x : plain.Geometry). placed_in x.instances) (map plain_geometry xs)) taken
      ∙ (ap (map (λ (x : plain.Geometry). placed_in x.instances)) (map_take_more plain_geometry gs (length ys) g below at) ∙ map-append (λ (x : plain.Geometry). placed_in x.instances) (map plain_geometry (take (length ys) gs)) (plain_geometry g ∷ [])) in
      is
      ∙ (ap (λ p. placed_behind p (placed_in (plain_instances (instances_in g)))) so_far
      ∙ (ap (λ i. placed_behind (joined_placed firsts) (placed_in i)) (sym (instances_plain g)) ∙ (sym (joined_more firsts (placed_in (plain_geometry g).instances)) ∙ ap joined_placed (sym all))))

  count_here : plain.count (plain_geometry g) place.Instance ≡ length (items_in (instances_in g))
  count_here = ap (λ i. length (plain.transforms (placed_in i))) (instances_plain g) ∙ instances_count (instances_in g)

  -- and how many there are
  pub count_next : (n m : ℕ) → n ≡ count_together (map plain_geometry (take (length ys) gs)) place.Instance → m ≡ n + length (items_in (instances_in g)) → m ≡ count_together (map plain_geometry (take (length (ys ++ g ∷ [])) gs)) place.Instance
  count_next n m so_far is =
      let more = one_more_counted plain_geometry place.Instance gs (length ys) g below at in
      let here = count_here in
      let all = ap (λ xs. count_together (map plain_geometry xs) place.Instance) taken in
      omega (arith, more, here, all, so_far, is)

  pub few_next : (n : ℕ) → n ≡ count_together (map plain_geometry (take (length ys) gs)) place.Instance → count_together (map plain_geometry gs) place.Instance < 2 ^ 32 → n + length (items_in (instances_in g)) < 2 ^ 32
  few_next n so_far few =
      let more = one_more_counted plain_geometry place.Instance gs (length ys) g below at in
      let first = first_counted plain_geometry place.Instance (length ys + 1) gs in
      let here = count_here in
      omega (arith, more, here, first, so_far, few)
