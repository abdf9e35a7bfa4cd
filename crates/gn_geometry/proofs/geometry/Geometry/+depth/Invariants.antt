use Rattle.std.proofs.Common.{◌≡◌, ◌<◌, ◌-◌, ◌^◌, min, max, drop}
use Rattle.gn_geometry.specs.Geometries.{parts_of, depth_below}
use Rattle.gn_geometry.proofs.geometry.Geometry.+depth.Given as goal

abbrev pub invariant-loop-part : goal.invariant-loop-part
invariant-loop-part l =
    (l.most < 2 ^ 32) × (min (max l.most (depth_below (parts_of (drop l.part-index l.part-items)))) (2 ^ 32 - 1) ≡ min (depth_below (parts_of l.part-items)) (2 ^ 32 - 1))
