use Rattle.std.proofs.Common.{◌≡◌, ◌++◌, flat_map}
use Rattle.std.specs.List.{range_with_len}
use Rattle.gn_grid.specs.GridLists.{four_edges}
use Rattle.gn_grid.proofs.grids.add_edges.Given as goal

-- the corners of the faces so far
abbrev pub invariant-loop-y : goal.invariant-loop-y
invariant-loop-y l = record {
  corners : l.corners.items ≡ l.fn.corners.items ++ flat_map (four_edges l.below l.right l.left) (range_with_len 0 l.y);
}
