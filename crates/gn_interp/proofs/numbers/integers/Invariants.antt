use Rattle.std.proofs.Common.{◌≡◌, map, take}
use Rattle.gn_value.specs.Arithmetic.{sat_int}
use Rattle.gn_interp.proofs.numbers.integers.Given as goal

abbrev pub invariant-loop-number : goal.invariant-loop-number
invariant-loop-number l = l.integers.items ≡ map sat_int (take l.number-index l.numbers)
