use Rattle.std.proofs.Common.{arith}
use Rattle.gn_geom.proofs.FaceLemmas.{next_offset}
use Rattle.gn_geom.proofs.checks.are_faces.Goals as goal

pub is_face-requires-clause-range : goal.is_face-requires-clause-range
is_face-requires-clause-range c =
    let next = next_offset _ _ _ _ c.loop-end-test.true c.loop-end.invariant.rise in
    (omega (arith, next.0), next.1)
