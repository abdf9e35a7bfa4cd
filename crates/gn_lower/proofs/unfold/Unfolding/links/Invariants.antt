use Rattle.std.proofs.Common.{take}
use Rattle.gn_lower.specs.Events.{Links}
use Rattle.gn_lower.proofs.unfold.Unfolding.links.Given as goal

abbrev pub invariant-loop-read : goal.invariant-loop-read
invariant-loop-read l = Links l.initial.self (take l.read-index l.reads) l.links.items l.self
