use Rattle.std.proofs.Common.{◌≡◌, map, flat_map, take}
use Rattle.gn_grid.specs.GridLists.{point_in}
use Rattle.gn_grid.proofs.grids.points.Given as goal

-- the vertices of the columns so far
abbrev pub invariant-loop-x : goal.invariant-loop-x
invariant-loop-x l = record {
  points : l.points.items ≡ flat_map (λ x. map (point_in x) l.ys) (take l.x-index l.xs);
}
