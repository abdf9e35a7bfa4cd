use Rattle.std.proofs.Common.{◌≡◌, length, take}
use Rattle.gn_join.specs.Gathering.{slots_of}
use Rattle.gn_join.proofs.placed.waiting.Given as goal

abbrev pub invariant-loop-part : goal.invariant-loop-part
invariant-loop-part l = l.slots.items ≡ slots_of (take (length l.yielded) l.fn.parts.items)
