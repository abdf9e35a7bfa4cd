use Rattle.std.proofs.Common.{◌≡◌, map}
use Rattle.std.specs.List.{range_with_len}
use Rattle.gn_shapes.specs.Lines.{point_of_line}
use Rattle.gn_prim.proofs.lines.points.Given as goal

-- the vertices so far
abbrev pub invariant-loop-number : goal.invariant-loop-number
invariant-loop-number l = record {
  points : l.points.items ≡ map (point_of_line l.start l.offset) (range_with_len 0 l.number);
}
