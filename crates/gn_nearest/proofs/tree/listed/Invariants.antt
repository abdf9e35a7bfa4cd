use Rattle.std.proofs.Common.{◌≡◌, map}
use Rattle.std.specs.List.{range_with_len}
use Rattle.gn_nearest.specs.Boxes.{entry_at}
use Rattle.gn_nearest.proofs.tree.listed.Given as goal

abbrev pub invariant-loop-index : goal.invariant-loop-index
invariant-loop-index l = l.entries.items ≡ map (entry_at l.points) (range_with_len 0 l.index)
