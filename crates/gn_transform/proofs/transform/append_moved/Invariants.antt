use Rattle.std.proofs.Common.{◌≡◌, ◌++◌, map, take}
use Rattle.gn_geometry.specs.Geometries.{plain_transform}
use Rattle.gn_joins.specs.Transforms.{moved_point}
use Rattle.gn_transform.proofs.transform.append_moved.Given as goal

abbrev pub invariant-loop-point : goal.invariant-loop-point
invariant-loop-point l = l.into.items ≡ l.fn.into.items ++ map (moved_point (plain_transform l.transform)) (take l.point-index l.points)
