-- Instances and the parts that they place.
use Rattle.std.proofs.Common.{◌≡◌, ℕ, suc, ◌≤◌, List, [], ◌∷◌, length, drop, refl, ap, drop_of_length-le}
use Rattle.gn_plain.specs.Geometry as plain
use Rattle.gn_geometry.specs.declared.geometry.Transform.{Transform}
use Rattle.gn_geometry.specs.Geometries.{GeometryView, InstancesView, instances, depth_below, items_in, parts_of, placed_by, plain_instances, plain_parts}

count_placed : (items : List (Transform × ℕ)) (parts : List plain.Geometry) → length (plain.transforms (placed_by items parts)) ≡ length items
count_placed [] parts = refl
count_placed (item ∷ items) parts = ap suc (count_placed items parts)

-- there is a plain instance for each item
pub instances_count : (is : InstancesView) → length (plain.transforms (plain.placed_in (plain_instances is))) ≡ length (items_in is)
instances_count (instances parts items columns) = count_placed items (plain_parts parts)

-- no part is left
pub deepest_none : (gs : List GeometryView) (i : ℕ) → length gs ≤ i → depth_below (parts_of (drop i gs)) ≡ 0
deepest_none gs i h = ap (λ xs. depth_below (parts_of xs)) (drop_of_length-le gs h)
