use Rattle.std.proofs.Common.{◌≡◌, ◌++◌, flat_map}
use Rattle.std.specs.List.{range_with_len}
use Rattle.gn_grid.specs.GridLists.{four_vertices}
use Rattle.gn_grid.proofs.grids.add_vertices.Given as goal

-- the corners of the faces so far
abbrev pub invariant-loop-y : goal.invariant-loop-y
invariant-loop-y l = record {
  corners : l.corners.items ≡ l.fn.corners.items ++ flat_map (four_vertices l.first l.next) (range_with_len 0 l.y);
}
