use Rattle.std.proofs.Common.{get_or, pos, arith, true}
use Rattle.std.proofs.lemmas.List.Edits.{map_over_more}
use Rattle.std.proofs.lemmas.List.{get_or_default}
use Rattle.gn_value.specs.Values.{v3}
use Rattle.gn_rows.specs.Moves.{moved_point}
use Rattle.gn_app.proofs.moving.move_points.Goals as goal

pub loop-point-preserved : goal.loop-point-preserved
loop-point-preserved c =
    let points = c.loop-point.points in
    let i = c.loop-point.point-index in
    let zero = v3 (pos 0) (pos 0) (pos 0) in
    let here = get_or_default points i zero (get_or points i zero) (omega arith) in
    let f = map_over_more (λ p. moved_point true c.args.to c.args.by p) c.args.points.now points i (get_or points i zero) c.loop-point-test.true c.loop-point.invariant here in
    rw c.moved_point.ensures f
