use Rattle.std.proofs.Common.{◌≡◌, map, take}
use Rattle.gn_interp.specs.Numbers.{component_of}
use Rattle.gn_interp.proofs.numbers.components.Given as goal

abbrev pub invariant-loop-value : goal.invariant-loop-value
invariant-loop-value l = l.raws.items ≡ map (component_of l.axis) (take l.value-index l.values)
