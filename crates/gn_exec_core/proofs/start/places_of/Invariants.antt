use Rattle.std.proofs.Common.{◌≡◌, map, take}
use Rattle.gn_exec_core.specs.Holds.{input_of}
use Rattle.gn_exec_core.proofs.start.places_of.Given as goal

abbrev pub invariant-loop-link : goal.invariant-loop-link
invariant-loop-link l = l.places.items ≡ map input_of (take l.link-index l.links)
