use Rattle.std.proofs.Common.{◌∙◌, ap}
use Rattle.gn_geometry.specs.Clouds.{CloudView}
use Rattle.gn_pieces.proofs.Steps.{one_more_points}
use Rattle.gn_pieces.proofs.shapes.joined_points.Goals as goal

pub loop-view-preserved : goal.loop-view-preserved
loop-view-preserved c =
    one_more_points c.args.views.now c.loop-view.view-index c.view-item.result c.loop-view.points.items c.append_points.new.into.items c.points.result.now c.loop-view-test.true c.view-item.is
    (c.points.ensures.points ∙ ap (λ (x : CloudView). x.points.items) c.cloud.ensures) c.loop-view.invariant c.in_ok-append_points.ensures
