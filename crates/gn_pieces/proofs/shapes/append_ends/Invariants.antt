use Rattle.std.proofs.Common.{◌≡◌, ◌++◌, map, take}
use Rattle.gn_joins.specs.Appended.{ends_behind}
use Rattle.gn_pieces.proofs.shapes.append_ends.Given as goal

abbrev pub invariant-loop-lesser : goal.invariant-loop-lesser
invariant-loop-lesser l = l.into.items ≡ l.fn.into.items ++ map (ends_behind l.shift) (take l.lesser-index l.ends)
