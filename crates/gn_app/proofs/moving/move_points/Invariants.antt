use Rattle.std.proofs.Common.{◌≡◌, ◌++◌, map, take, drop, true}
use Rattle.gn_rows.specs.Moves.{moved_point}
use Rattle.gn_app.proofs.moving.move_points.Given as goal

abbrev pub invariant-loop-point : goal.invariant-loop-point
invariant-loop-point l =
    l.points ≡ map (λ p. moved_point true l.to l.by p) (take l.point-index l.initial.points) ++ drop l.point-index l.initial.points
