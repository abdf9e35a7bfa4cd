use Rattle.gn_order.specs.Heights.{AreKnown}
use Rattle.gn_order.proofs.heights.first_open.Given as goal

abbrev pub invariant-loop-position : goal.invariant-loop-position
invariant-loop-position l = AreKnown l.heights l.targets l.from → AreKnown l.heights l.targets l.position
