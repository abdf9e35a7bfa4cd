-- The beginning, each turn and the end of what gathers instances.
use Rattle.std.proofs.Common.{◌≡◌, ℕ, zero, suc, ◌+◌, ◌<◌, List, [], ◌∷◌, length, map, take, get_or, refl, sym, ap, subst, ◌∙◌, arith}
use Rattle.std.specs.List.{All}
use Rattle.std.proofs.lemmas.List.Elements.{All-nil}
use Rattle.gn_plain.specs.Geometry as plain
use Rattle.gn_plain.specs.Geometry.{Placed, none_placed, placed_in}
use Rattle.gn_geometry.specs.declared.geometry.Transform.{Transform}
use Rattle.gn_geometry.specs.Geometries.{GeometryView, InstancesView, instances, list_of_parts, parts_in, parts_of, placed_by, plain_geometry, plain_instances, AreSoleInstances, IsSole}
use Rattle.gn_joins.specs.Joins.{placed_behind}
use Rattle.gn_join.specs.declared.placed.Gathered.{Gathered}
use Rattle.gn_join.specs.declared.placed.Slot.{Slot}
use Rattle.gn_join.specs.Gathering.{item_placed, part_in, placed_of, slots_of, AreNumbered, IsGathered, IsSoleSlot}
use Rattle.gn_join.proofs.Gathered.{behind_none, item_more, plain_list}
use Rattle.gn_join.proofs.Soles.{parts_sole, slots_sole}
use Rattle.gn_join.proofs.Turns.{none_numbered, parts_waiting}

abbrev Item : Type 0
Item = Transform × ℕ

-- an item names a part that is there
pub names_there : (items all : List Item) (k n m : ℕ) (d : Item) → items ≡ all → All (λ i. i.1 < n) all → k < length items → n ≡ m → (get_or items k d).1 < m
names_there items all k n m d same named below equal =
    let here : (get_or items k d).1 < n = subst (λ (xs : List Item). All (λ (i : Item). i.1 < n) xs) (sym same) named k d below in
    omega (arith, here, equal)

pub any_default : (items : List Item) (k : ℕ) (d e : Item) → k < length items → get_or items k d ≡ get_or items k e
any_default [] k d e below = absurd (omega (arith, below))
any_default (i ∷ items) zero d e below = refl
any_default (i ∷ items) (suc k) d e below = any_default items k d e (omega (arith, below))

pub item_next : (start before after : Placed) (items : List Item) (ps qs : List plain.Geometry) (k : ℕ) (d : Item) → k < length items → qs ≡ ps → before ≡ placed_behind start (placed_by (take k items) ps) → after ≡ placed_behind before (item_placed qs (get_or items k d))
    → after ≡ placed_behind start (placed_by (take (k + 1) items) ps)
item_next start before after items ps qs k d below same so_far is =
    is
    ∙ ((λ j. placed_behind (so_far j) (item_placed (same j) (get_or items k d)))
    ∙ item_more start items ps k (get_or items k d) below (any_default items k d (get_or items k d) below))

-- before the first item
pub starts : (g : Gathered) (is : InstancesView) (slots : List Slot) → slots ≡ slots_of (parts_in is) → IsGathered g
    → IsGathered g
    × AreNumbered g.parts.items slots
    × (map (part_in g.parts.items) slots ≡ map plain_geometry (parts_in is))
    × (placed_of g ≡ placed_behind (placed_of g) none_placed)
    × (length g.items.items ≡ length g.items.items + 0)
    × (All IsSole g.parts.items → AreSoleInstances is → (All IsSole g.parts.items) × (All IsSoleSlot slots))
starts g is slots same on = (
  on,
  subst (λ (ss : List Slot). AreNumbered g.parts.items ss) (sym same) (none_numbered g.parts.items (parts_in is)),
  ap (map (part_in g.parts.items)) same ∙ parts_waiting g.parts.items (parts_in is),
  sym (behind_none (placed_of g)),
  omega arith,
  λ parts sole. (parts, subst (λ (ss : List Slot). All IsSoleSlot ss) (sym same) (slots_sole (parts_in is) (parts_sole is sole))),
)

-- before the first geometry
pub none_gathered : (g : Gathered) (gs : List GeometryView) → g.parts.items ≡ [] → g.items.items ≡ []
    → IsGathered g × (placed_of g ≡ none_placed) × (length g.items.items ≡ 0) × (All IsSole gs → All IsSole g.parts.items)
none_gathered g gs parts items =
    let none : length g.parts.items ≡ 0 = ap length parts in (
      record {
        named = subst (λ (is : List Item). All (λ (i : Item). i.1 < length g.parts.items) is) (sym items) (All-nil (λ (i : Item). i.1 < length g.parts.items));
        few = omega (arith, none);
      },
      ap (λ is. placed_by is (map plain_geometry g.parts.items)) items,
      ap length items,
      λ all. subst (λ (ps : List GeometryView). All IsSole ps) (sym parts) (All-nil IsSole),
    )

-- the instances that are made of what was gathered
pub placed_made : (g : Gathered) (is : InstancesView) → is ≡ instances (parts_of g.parts.items) g.items.items [] → placed_in (plain_instances is) ≡ placed_of g
placed_made g is same =
    ap (λ (x : InstancesView). placed_in (plain_instances x)) same
    ∙ ap (placed_by g.items.items) (plain_list (parts_of g.parts.items) ∙ ap (map plain_geometry) (list_of_parts g.parts.items))

take_all : {X : Type 0} (xs : List X) → take (length xs) xs ≡ xs
take_all [] = refl
take_all (x ∷ xs) = ap (λ ys. x ∷ ys) (take_all xs)

-- all were gone over
pub whole : {X : Type 0} (xs : List X) (n : ℕ) → n ≡ length xs → take n xs ≡ xs
whole xs n long = ap (λ m. take m xs) long ∙ take_all xs
