use Rattle.std.proofs.Common.{◌≡◌, ◌++◌}
use Rattle.gn_mask.specs.Numbers.{numbers}
use Rattle.gn_mask.proofs.mask.put.Given as goal

abbrev pub invariant-loop-number : goal.invariant-loop-number
invariant-loop-number l = l.list.items ++ numbers l.number l.segment.end ≡ l.initial.list.items ++ numbers l.segment.start l.segment.end
