use Rattle.std.proofs.Common.{◌≡◌, ◌∷◌, ◌++◌, drop, length, flat_map}
use Rattle.gn_plain.specs.Topology.{RiseTo, parts_between}
use Rattle.gn_plain.specs.Interpolation.{corners, corners_from}
use Rattle.gn_interp.specs.Takings.{corner_takings, topology_of, unplaced}
use Rattle.gn_interp.proofs.Corners.{corners_of}
use Rattle.gn_interp.proofs.takings.at_corners.Given as goal

-- the pairs so far, and those of the faces that are left
abbrev pub invariant-loop-face : goal.invariant-loop-face
invariant-loop-face l = record {
  rise : RiseTo (length l.topology.corner_points.now) l.begin (drop l.face l.ends);
  pairs : l.takings.items ++ flat_map (corner_takings l.from l.to) (corners_from l.face l.begin (parts_between (l.begin ∷ drop l.face l.ends) (corners_of l.topology.corner_points.now l.topology.corner_edges.now)))
      ≡ flat_map (corner_takings l.from l.to) (corners (unplaced (topology_of l.topology)));
}
