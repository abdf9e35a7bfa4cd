use Rattle.std.proofs.Common.{◌≡◌, ◌-◌, flat_map}
use Rattle.gn_shapes.specs.Grids.{cells}
use Rattle.gn_grid.specs.GridLists.{face_edges}
use Rattle.gn_grid.proofs.grids.corner_edges.Given as goal

-- the corners of the columns so far
abbrev pub invariant-loop-x : goal.invariant-loop-x
invariant-loop-x l = record {
  corners : l.corners.items ≡ flat_map (face_edges l.columns l.rows) (cells l.x (l.rows - 1));
}
