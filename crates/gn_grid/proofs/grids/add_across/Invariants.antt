use Rattle.std.proofs.Common.{◌≡◌, ◌++◌, map}
use Rattle.std.specs.List.{range_with_len}
use Rattle.gn_grid.specs.GridLists.{across_from_first}
use Rattle.gn_grid.proofs.grids.add_across.Given as goal

-- the edges so far
abbrev pub invariant-loop-y : goal.invariant-loop-y
invariant-loop-y l = record {
  edges : l.edges.items ≡ l.fn.edges.items ++ map (across_from_first l.first l.next) (range_with_len 0 l.y);
}
