use Rattle.std.proofs.Common.{◌≡◌, ◌+◌, length, map, take, All}
use Rattle.gn_geometry.specs.Geometries.{parts_in, placed_by, plain_geometry, AreSoleInstances, IsSole}
use Rattle.gn_joins.specs.Joins.{placed_behind}
use Rattle.gn_join.specs.Gathering.{part_in, placed_of, AreNumbered, IsGathered, IsSoleSlot}
use Rattle.gn_join.proofs.placed.append.Given as goal

-- the items that were gone over are placed, and each slot stands for its part
abbrev pub invariant-loop-transform : goal.invariant-loop-transform
invariant-loop-transform l =
    IsGathered l.gathered
    × AreNumbered l.gathered.parts.items l.slots.items
    × (map (part_in l.gathered.parts.items) l.slots.items ≡ map plain_geometry (parts_in l.fn.instances))
    × (placed_of l.gathered ≡ placed_behind (placed_of l.fn.gathered) (placed_by (take l.transform-index l.transform-items) (map plain_geometry (parts_in l.fn.instances))))
    × (length l.gathered.items.items ≡ length l.fn.gathered.items.items + l.transform-index)
    × (All IsSole l.fn.gathered.parts.items → AreSoleInstances l.fn.instances → (All IsSole l.gathered.parts.items) × (All IsSoleSlot l.slots.items))
