-- The numbers of elements of parts, added up.
use Rattle.std.proofs.Common.{◌≡◌, ℕ, ◌+◌, ◌<◌, List, length, map, sym, ap, subst, ◌∙◌}
use Rattle.std.specs.Prelude.{slice_index}
use Rattle.std.specs.List.{All, sum_by}
use Rattle.std.proofs.lemmas.List.{length-map}
use Rattle.gn_value.specs.declared.value.Place.{Place}
use Rattle.gn_plain.specs.Geometry.{count}
use Rattle.gn_geometry.specs.Geometries.{GeometryView, instances_in, items_in, parts_in, plain_geometry}
use Rattle.gn_inst.specs.Realizing.{capped, capped_count, own}
use Rattle.gn_inst.proofs.RealizedParts.{counts_together, Item}

-- each item names a part whose number is there
pub all_named : (g : GeometryView) (p : Place) (counts : List ℕ) (items : List Item) → All (λ i. i.1 < length (parts_in (instances_in g))) items → counts ≡ map (capped_count p) (parts_in (instances_in g)) → All (λ i. i.1 < length counts) items
all_named g p counts items named equal =
    let long : length (parts_in (instances_in g)) ≡ length counts = sym (length-map (parts_in (instances_in g)) (capped_count p)) ∙ ap length (sym equal) in
    subst (λ n. All (λ (i : Item). i.1 < n) items) long named

-- the numbers of the parts, and a geometry's own, make its number
pub count_is : (g : GeometryView) (p : Place) (items : List Item) (counts : List ℕ) (start total : ℕ) → items ≡ items_in (instances_in g) → All (λ i. i.1 < length (parts_in (instances_in g))) items → counts ≡ map (capped_count p) (parts_in (instances_in g))
    → start ≡ count (own (plain_geometry g)) p → total ≡ capped (start + sum_by (λ i. slice_index counts i.1) items) → total ≡ capped_count p g
count_is g p items counts start total listed named counted own_is total_is =
    let all : All (λ (i : Item). i.1 < length (parts_in (instances_in g))) (items_in (instances_in g)) = subst (λ (xs : List Item). All (λ (i : Item). i.1 < length (parts_in (instances_in g))) xs) listed named in
    total_is ∙ ((λ j. capped (own_is j + sum_by (λ i. slice_index (counted j) i.1) (listed j))) ∙ counts_together g p all)
