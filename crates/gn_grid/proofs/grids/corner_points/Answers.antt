use Rattle.std.proofs.Common.{◌+◌, ◌-◌, ◌*◌}
use Rattle.gn_grid.specs.GridLists.{face_vertices, four_vertices}
use Rattle.gn_grid.proofs.Growing.{flat_step, vertices_same}
use Rattle.gn_grid.proofs.grids.corner_points.Goals as goal

pub loop-x-preserved : goal.loop-x-preserved
loop-x-preserved c =
    let columns = c.args.columns in
    let rows = c.args.rows in
    let x = c.loop-x.x in
    record {
      corners = flat_step (four_vertices (x * rows) ((x + 1) * rows)) (face_vertices columns rows) x (rows - 1) c.saturating_sub-steps.result c.loop-x.corners.items c.add_vertices.new.corners.items
          c.saturating_sub-steps.ensures (vertices_same columns rows x) c.loop-x.invariant.corners c.in_ok-add_vertices.ensures;
    }
