use Rattle.std.proofs.Common.{arith}
use Rattle.gn_geometry.proofs.Placed.{deepest_none}
use Rattle.gn_geometry.proofs.geometry.Geometry.+depth.Goals as goal

pub returns : goal.returns
returns t c = rw (← c.self.view_is, ← c.instances.view_is, ← c.deref-part-items.ensures.value, ← c.loop-part.invariant.1, deepest_none c.deref-part-items.result.now c.loop-part.part-index c.loop-part-test.false) (omega (arith, c.loop-part.invariant.0))
