use Rattle.std.proofs.Common.{◌≡◌, map}
use Rattle.std.specs.List.{range_with_len}
use Rattle.gn_shapes.specs.Grids.{along_side}
use Rattle.gn_grid.proofs.grids.side.Given as goal

-- the coordinates so far
abbrev pub invariant-loop-number : goal.invariant-loop-number
invariant-loop-number l = record {
  places : l.places.items ≡ map (along_side l.size l.count) (range_with_len 0 l.number);
}
