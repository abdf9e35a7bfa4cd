-- One more instance behind those that were gathered.
use Rattle.std.proofs.Common.{◌≡◌, ℕ, zero, suc, ◌+◌, ◌<◌, ◌≤◌, List, [], ◌∷◌, ◌++◌, length, map, set, take, get_or, refl, sym, ap, subst, ◌∙◌, arith}
use Rattle.std.specs.List.{All}
use Rattle.std.proofs.lemmas.List.{get_or_append_left, length-append, length-map, map-append, take_more}
use Rattle.std.proofs.lemmas.List.Elements.{All-append, All-cons, All-head, All-nil, All-set, All-tail, All-weaker}
use Rattle.gn_plain.specs.Geometry as plain
use Rattle.gn_plain.specs.Geometry.{Placed, none_placed, and_placed}
use Rattle.gn_geometry.specs.declared.geometry.Transform.{Transform}
use Rattle.gn_geometry.specs.Geometries.{GeometryView, InstancesView, Parts, instances, no_parts, part, items_in, list_of, parts_in, placed_by, plain_geometry, plain_instances, plain_parts, plain_transform}
use Rattle.gn_joins.specs.Joins.{joined_placed, placed_behind}
use Rattle.gn_joins.proofs.Moved.{get_map}
use Rattle.gn_join.specs.declared.placed.Gathered.{Gathered}
use Rattle.gn_join.specs.declared.placed.Slot.{Slot}
use Rattle.gn_join.specs.declared.placed.Slot.TheVariants.{Waiting, At}
use Rattle.gn_join.specs.Gathering.{item_placed, part_in, placed_of, AreNumbered, IsBelow, IsGathered, Numbers}

-- ---- what items place

abbrev Item : Type 0
Item = Transform × ℕ

abbrev IsNamed : ℕ → Item → Type 0
IsNamed count i = i.1 < count

-- an item with its part
abbrev pub with_part : Transform → plain.Geometry → Placed → Placed
with_part t g rest = and_placed (plain_transform t) g.mesh g.cloud g.instances rest

-- more parts behind those that are named change nothing
pub placed_more : (items : List Item) (ps qs : List plain.Geometry) → All (IsNamed (length ps)) items → placed_by items (ps ++ qs) ≡ placed_by items ps
placed_more [] ps qs named = refl
placed_more (i ∷ items) ps qs named =
    let here = get_or_append_left ps qs plain.empty i.1 (All-head (IsNamed (length ps)) i items named) in
    let rest = placed_more items ps qs (All-tail (IsNamed (length ps)) i items named) in
    λ j. with_part i.0 (here j) (rest j)

pub placed_both : (items more : List Item) (ps : List plain.Geometry) → placed_by (items ++ more) ps ≡ placed_behind (placed_by items ps) (placed_by more ps)
placed_both [] more ps = refl
placed_both (i ∷ items) more ps = ap (with_part i.0 (get_or ps i.1 plain.empty)) (placed_both items more ps)

-- ---- the parts of slots

module _ {X Y : Type 0} (f g : X → Y) where
  -- one member is another, and the rest stays
  set_kept : (xs : List X) (i : ℕ) (x y : X) → i < length xs → x ≡ get_or xs i x → g y ≡ f x → All (λ z. g z ≡ f z) xs → map g (set xs i y) ≡ map f xs
  set_kept [] i x y below at here others = refl
  set_kept (z ∷ zs) zero x y below at here others =
      let first : g y ≡ f z = here ∙ ap f at in
      let rest = map_like zs (All-tail (λ w. g w ≡ f w) z zs others) in
      λ j. first j ∷ rest j
    where
      map_like : (ws : List X) → All (λ w. g w ≡ f w) ws → map g ws ≡ map f ws
      map_like [] all = refl
      map_like (w ∷ ws) all = let first = All-head (λ v. g v ≡ f v) w ws all in let rest = map_like ws (All-tail (λ v. g v ≡ f v) w ws all) in λ j. first j ∷ rest j
  set_kept (z ∷ zs) (suc i) x y below at here others =
      let first = All-head (λ w. g w ≡ f w) z zs others in
      let rest = set_kept zs i x y (omega (arith, below)) at here (All-tail (λ w. g w ≡ f w) z zs others) in
      λ j. first j ∷ rest j

-- one more part changes the part of no slot
part_more : (before : List GeometryView) (g : GeometryView) (s : Slot) → IsBelow (length before) s → part_in (before ++ g ∷ []) s ≡ part_in before s
part_more before g (Waiting h) below = refl
part_more before g (At k) below =
    let within : k < length (map plain_geometry before) = omega (arith, below, length-map before plain_geometry) in
    ap (λ ps. get_or ps k plain.empty) (map-append plain_geometry before (g ∷ [])) ∙ get_or_append_left (map plain_geometry before) (map plain_geometry (g ∷ [])) plain.empty k within

part_last : (before : List GeometryView) (g : GeometryView) → get_or (map plain_geometry (before ++ g ∷ [])) (length before) plain.empty ≡ plain_geometry g
part_last [] g = refl
part_last (h ∷ before) g = part_last before g

below_more : (n m : ℕ) (s : Slot) → n ≤ m → IsBelow n s → IsBelow m s
below_more n m (Waiting g) longer below = tt
below_more n m (At k) longer below = omega (arith, longer, below)

-- a part was numbered
pub record IsStep (before after : List GeometryView) (slots now : List Slot) (i n : ℕ) : Type 0 where
  pub below : n < length after
  pub longer : length before ≤ length after
  pub few : length after ≤ length before + 1
  pub numbered : AreNumbered after now
  pub parts : map (part_in after) now ≡ map (part_in before) slots
  pub here : get_or (map plain_geometry after) n plain.empty ≡ get_or (map (part_in before) slots) i plain.empty
  pub keeps : (items : List Item) → All (IsNamed (length before)) items → placed_by items (map plain_geometry after) ≡ placed_by items (map plain_geometry before)

pub is_step : (before after : List GeometryView) (slots now : List Slot) (i n : ℕ) (s s' : Slot) → i < length slots → s ≡ get_or slots i s → AreNumbered before slots → Numbers s before after n s' → now ≡ set slots i s' → IsStep before after slots now i n
is_step before after slots now i n (Waiting g) s' below at numbered nums is =
    let all = before ++ g ∷ [] in
    let slots' : now ≡ set slots i (At (length before)) = is ∙ ap (set slots i) (nums.2 ∙ ap At nums.1) in
    let long : length all ≡ length before + 1 = length-append before (g ∷ []) in
    let made : IsStep before all slots (set slots i (At (length before))) i (length before) = record {
      below = omega (arith, long);
      longer = omega (arith, long);
      few = omega (arith, long);
      numbered = All-set (IsBelow (length all)) slots i (At (length before)) (omega (arith, long)) (All-weaker (IsBelow (length before)) (IsBelow (length all)) (λ t b. below_more (length before) (length all) t (omega (arith, long)) b) slots numbered);
      parts = set_kept (part_in before) (part_in all) slots i (Waiting g) (At (length before)) below at (part_last before g) (All-weaker (IsBelow (length before)) (λ t. part_in all t ≡ part_in before t) (λ t b. part_more before g t b) slots numbered);
      here = part_last before g ∙ sym (get_map (part_in before) slots i (Waiting g) plain.empty below ∙ ap (part_in before) (sym at));
      keeps = λ items named. ap (placed_by items) (map-append plain_geometry before (g ∷ [])) ∙ placed_more items (map plain_geometry before) (map plain_geometry (g ∷ [])) (subst (λ m. All (IsNamed m) items) (sym (length-map before plain_geometry)) named);
    } in
    subst (λ (xs : List GeometryView). IsStep before xs slots now i n) (sym nums.0)
    (subst (λ (ts : List Slot). IsStep before all slots ts i n) (sym slots') (subst (λ m. IsStep before all slots (set slots i (At (length before))) i m) (sym nums.1) made))
is_step before after slots now i n (At k) s' below at numbered nums is =
    let slots' : now ≡ set slots i (At k) = is ∙ ap (set slots i) nums.2 in
    let under : IsBelow (length before) (At k) = subst (IsBelow (length before)) (sym at) (numbered i (At k) below) in
    let made : IsStep before before slots (set slots i (At k)) i k = record {
      below = under;
      longer = omega arith;
      few = omega arith;
      numbered = All-set (IsBelow (length before)) slots i (At k) under numbered;
      parts = set_kept (part_in before) (part_in before) slots i (At k) (At k) below at refl (λ j d lt. refl);
      here = sym (get_map (part_in before) slots i (At k) plain.empty below ∙ ap (part_in before) (sym at));
      keeps = λ items named. refl;
    } in
    subst (λ (xs : List GeometryView). IsStep before xs slots now i n) (sym nums.0)
    (subst (λ (ts : List Slot). IsStep before before slots ts i n) (sym slots') (subst (λ m. IsStep before before slots (set slots i (At k)) i m) (sym nums.1) made))

-- ---- an instance is placed

pub gathered_more : (g now : Gathered) (slots ts : List Slot) (i n : ℕ) (t : Transform) → IsStep g.parts.items now.parts.items slots ts i n → now.items.items ≡ g.items.items ++ (t, n) ∷ [] → IsGathered g → IsGathered now
gathered_more g now slots ts i n t step items on =
    let long : length (g.items.items ++ (t, n) ∷ []) ≡ length g.items.items + 1 = length-append g.items.items ((t, n) ∷ []) in
    let named = All-append (IsNamed (length now.parts.items)) g.items.items ((t, n) ∷ [])
    (All-weaker (IsNamed (length g.parts.items)) (IsNamed (length now.parts.items)) (λ j h. omega (arith, h, step.longer)) g.items.items on.named)
    (All-cons (IsNamed (length now.parts.items)) (t, n) [] step.below (All-nil (IsNamed (length now.parts.items)))) in
    record {
      named = subst (All (IsNamed (length now.parts.items))) (sym items) named;
      few = subst (λ (is : List Item). length now.parts.items ≤ length is) (sym items) (omega (arith, long, step.few, on.few));
    }

pub placed_one : (g now : Gathered) (slots ts : List Slot) (i n : ℕ) (t : Transform) → IsStep g.parts.items now.parts.items slots ts i n → now.items.items ≡ g.items.items ++ (t, n) ∷ [] → IsGathered g
    → placed_of now ≡ placed_behind (placed_of g) (item_placed (map (part_in g.parts.items) slots) (t, i))
placed_one g now slots ts i n t step items on =
    let ps = map plain_geometry now.parts.items in
    ap (λ is. placed_by is ps) items
    ∙ (placed_both g.items.items ((t, n) ∷ []) ps
    ∙ (ap (λ p. placed_behind p (item_placed ps (t, n))) (step.keeps g.items.items on.named)
    ∙ ap (λ (x : plain.Geometry). placed_behind (placed_of g) (with_part t x none_placed)) step.here))

-- ---- the instances of a geometry

pub plain_list : (ps : Parts) → plain_parts ps ≡ map plain_geometry (list_of ps)
plain_list no_parts = refl
plain_list (part g gs) = ap (λ xs. plain_geometry g ∷ xs) (plain_list gs)

-- what instances place
pub placed_plain : (is : InstancesView) → plain.placed_in (plain_instances is) ≡ placed_by (items_in is) (map plain_geometry (parts_in is))
placed_plain (instances parts items columns) = ap (placed_by items) (plain_list parts)

pub behind_none : (p : Placed) → placed_behind p none_placed ≡ p
behind_none none_placed = refl
behind_none (and_placed t mesh cloud is p) = ap (and_placed t mesh cloud is) (behind_none p)

behind_all : (p q r : Placed) → placed_behind (placed_behind p q) r ≡ placed_behind p (placed_behind q r)
behind_all none_placed q r = refl
behind_all (and_placed t mesh cloud is p) q r = ap (and_placed t mesh cloud is) (behind_all p q r)

-- one more list of instances
pub joined_more : (ps : List Placed) (p : Placed) → joined_placed (ps ++ p ∷ []) ≡ placed_behind (joined_placed ps) p
joined_more [] p = behind_none p
joined_more (q ∷ ps) p = ap (placed_behind q) (joined_more ps p) ∙ sym (behind_all q (joined_placed ps) p)

-- one more item
pub item_more : (start : Placed) (items : List Item) (ps : List plain.Geometry) (i : ℕ) (item : Item) → i < length items → item ≡ get_or items i item
    → placed_behind (placed_behind start (placed_by (take i items) ps)) (item_placed ps item) ≡ placed_behind start (placed_by (take (i + 1) items) ps)
item_more start items ps i item below at =
    behind_all start (placed_by (take i items) ps) (item_placed ps item)
    ∙ ap (placed_behind start) (sym (placed_both (take i items) (item ∷ []) ps) ∙ ap (λ is. placed_by is ps) (sym (take_more items i item below ∙ ap (λ (x : Item). take i items ++ x ∷ []) (sym at))))
