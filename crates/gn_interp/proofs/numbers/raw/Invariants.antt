use Rattle.std.proofs.Common.{◌≡◌, map, take}
use Rattle.gn_value.specs.Values.{raw}
use Rattle.gn_interp.proofs.numbers.raw.Given as goal

abbrev pub invariant-loop-value : goal.invariant-loop-value
invariant-loop-value l = l.raws.items ≡ map raw (take l.value-index l.values)
