use Rattle.std.proofs.Common.{take}
use Rattle.gn_geom.specs.Meshes.{AreLoose}
use Rattle.gn_geometry.proofs.arrays.loose_edges.Given as goal

abbrev pub invariant-loop-edge : goal.invariant-loop-edge
invariant-loop-edge l = AreLoose l.loose.items l.count (take l.edge-index l.corner_edges)
