use Rattle.std.proofs.Common.{◌≡◌, take}
use Rattle.gn_interp.proofs.numbers.wide.Given as goal

abbrev pub invariant-loop-value : goal.invariant-loop-value
invariant-loop-value l = l.wide.items ≡ take l.value-index l.values
