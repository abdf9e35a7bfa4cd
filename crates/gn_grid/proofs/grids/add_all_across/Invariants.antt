use Rattle.std.proofs.Common.{◌≡◌, ◌++◌, map}
use Rattle.gn_shapes.specs.Grids.{cells}
use Rattle.gn_grid.specs.GridLists.{across_pair}
use Rattle.gn_grid.proofs.grids.add_all_across.Given as goal

-- the edges of the columns so far
abbrev pub invariant-loop-x : goal.invariant-loop-x
invariant-loop-x l = record {
  edges : l.edges.items ≡ l.fn.edges.items ++ map (across_pair l.columns l.rows) (cells l.x l.rows);
}
