use Rattle.std.proofs.Common.{◌≡◌, ◌+◌, ◌++◌, drop, flat_map}
use Rattle.gn_plain.specs.Interpolation.{corners_on, last_edge}
use Rattle.gn_interp.specs.Takings.{corner_takings}
use Rattle.gn_interp.proofs.Corners.{corners_of}
use Rattle.gn_interp.proofs.takings.add_face.Given as goal

-- the pairs so far, and those of the corners that are left
abbrev pub invariant-loop-at : goal.invariant-loop-at
invariant-loop-at l =
    let corners = corners_of l.vertices l.edges in
    let pairs = corner_takings l.from l.to in
    l.takings.items ++ flat_map pairs (corners_on l.face l.first (l.first + l.at) l.edge_before (drop l.at corners))
    ≡ l.fn.takings.items ++ flat_map pairs (corners_on l.face l.first l.first (last_edge corners) corners)
