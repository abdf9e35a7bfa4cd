use Rattle.std.proofs.Common.{◌≡◌, length, map, take, All}
use Rattle.gn_value.specs.declared.value.Place.TheVariants.{Instance}
use Rattle.gn_plain.specs.Geometry.{placed_in}
use Rattle.gn_geometry.specs.Geometries.{plain_geometry, IsSole}
use Rattle.gn_joins.specs.Joins.{joined_placed}
use Rattle.gn_joins.specs.Limits.{count_together}
use Rattle.gn_join.specs.Gathering.{placed_of, IsGathered}
use Rattle.gn_join.proofs.placed.joined_instances.Given as goal

-- the instances of the geometries that were gone over
abbrev pub invariant-loop-geometry : goal.invariant-loop-geometry
invariant-loop-geometry l =
    IsGathered l.gathered
    × (placed_of l.gathered ≡ joined_placed (map (λ g. placed_in g.instances) (map plain_geometry (take (length l.yielded) l.fn.geometries.items))))
    × (length l.gathered.items.items ≡ count_together (map plain_geometry (take (length l.yielded) l.fn.geometries.items)) Instance)
    × (All IsSole l.fn.geometries.items → All IsSole l.gathered.parts.items)
