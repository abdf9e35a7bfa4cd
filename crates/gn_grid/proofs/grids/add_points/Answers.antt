use Rattle.std.proofs.Common.{ℤ, w64, to_z, of_z, ◌++◌, map, take_all, ap, sym, ◌∙◌}
use Rattle.std.proofs.lemmas.List.{append-nil}
use Rattle.std.proofs.lemmas.Int.{to_z-of_z}
use Rattle.gn_grid.specs.GridLists.{point_in}
use Rattle.gn_grid.proofs.grids.add_points.Goals as goal

pub loop-y-init : goal.loop-y-init
loop-y-init c = record { points = sym (append-nil c.args.points.now.items) }

pub returns : goal.returns
returns c =
    let x = to_z w64 (of_z w64 c.args.x) in
    c.loop-y.invariant.points
    ∙ ap (λ l. c.args.points.now.items ++ map (point_in x) l) (take_all c.loop-y.y-index c.args.ys.now c.loop-y-test.false)
    ∙ ap (λ (z : ℤ). c.args.points.now.items ++ map (point_in z) c.args.ys.now) (to_z-of_z w64 c.args.x c.ranges.x)
