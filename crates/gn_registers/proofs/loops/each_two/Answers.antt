use Rattle.std.proofs.Common.{◌<◌, arith}
use Rattle.gn_registers.proofs.loops.each_two.Goals as goal

pub returns : goal.returns
returns g c = λ k h. let h' : k < c.loop-k.k = omega arith in rw (← c.list-a.ensures.values k g.A.OfKind.zero h, ← c.list-b.ensures.values k g.B.OfKind.zero h) (c.loop-k.invariant k g.A.OfKind.zero g.B.OfKind.zero g.R.OfKind.zero h')
