use Rattle.std.proofs.Common.{◌<◌, arith}
use Rattle.gn_registers.proofs.Positions.{argument_kind}
use Rattle.gn_kernel.proofs.selection.pick_by.Goals as goal

pub returns : goal.returns
returns g c = λ k h.
    let h' : k < c.loop-k.k = omega arith in
    let same = g.met.C.OfKind.same _ (argument_kind k _ 0 _ c.requires.choices) in
    rw (← same, ← c.list-choices.ensures.values k g.C.OfKind.zero h, ← c.list-values.ensures.values k g.T.OfKind.zero h)
    (c.loop-k.invariant.0 k g.C.OfKind.zero g.T.OfKind.zero h')
