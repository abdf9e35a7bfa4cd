use Rattle.std.proofs.Common.{◌≡◌, ◌++◌, map, take}
use Rattle.gn_grid.specs.GridLists.{point_in}
use Rattle.gn_grid.proofs.grids.add_points.Given as goal

-- the vertices so far
abbrev pub invariant-loop-y : goal.invariant-loop-y
invariant-loop-y l = record {
  points : l.points.items ≡ l.fn.points.items ++ map (point_in l.x) (take l.y-index l.ys);
}
