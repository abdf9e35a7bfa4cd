use Rattle.std.proofs.Common.{◌≡◌, ◌++◌, ◌-◌}
use Rattle.std.specs.List.{range_with_len}
use Rattle.std.specs.Prelude.{reverse}
use Rattle.gn_flip.proofs.order.add_down.Given as goal

-- the numbers so far, and those that are left
abbrev pub invariant-loop-above : goal.invariant-loop-above
invariant-loop-above l = record {
  numbers : l.numbers.items ++ reverse (range_with_len l.first (l.end - l.first - l.above)) ≡ l.fn.numbers.items ++ reverse (range_with_len l.first (l.end - l.first));
}
