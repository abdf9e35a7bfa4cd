use Rattle.std.proofs.Common.{◌≡◌, ◌-◌, ◌^◌, min, map, take}
use Rattle.gn_geometry.specs.Geometries.{plain_geometry}
use Rattle.gn_joins.specs.Limits.{count_together}
use Rattle.gn_join.proofs.limit.count_together.Given as goal

abbrev pub invariant-loop-geometry : goal.invariant-loop-geometry
invariant-loop-geometry l = l.count ≡ min (count_together (map plain_geometry (take l.geometry-index l.geometries)) l.place) (2 ^ 64 - 1)
