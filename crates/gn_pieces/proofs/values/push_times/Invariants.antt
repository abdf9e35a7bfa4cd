use Rattle.std.proofs.Common.{◌≡◌, replicate}
use Rattle.gn_pieces.specs.Behind.{values_behind, values_of}
use Rattle.gn_pieces.proofs.values.push_times.Given as goal

abbrev pub invariant-loop-done : goal.invariant-loop-done
invariant-loop-done l = values_of l.values ≡ values_behind (values_of l.fn.values) (replicate l._done l.value)
