use Rattle.std.proofs.Common.{◌≡◌, map, take}
use Rattle.gn_interp.specs.Numbers.{fixed_number}
use Rattle.gn_interp.proofs.numbers.fixed_numbers.Given as goal

abbrev pub invariant-loop-raw : goal.invariant-loop-raw
invariant-loop-raw l = l.fixed.items ≡ map fixed_number (take l.raw-index l.raws)
