use Rattle.std.proofs.Common.{◌+◌, ◌-◌, ◌*◌}
use Rattle.gn_grid.specs.GridLists.{face_edges, four_edges}
use Rattle.gn_grid.proofs.Growing.{flat_step, edges_same}
use Rattle.gn_grid.proofs.grids.corner_edges.Goals as goal

pub loop-x-preserved : goal.loop-x-preserved
loop-x-preserved c =
    let columns = c.args.columns in
    let rows = c.args.rows in
    let x = c.loop-x.x in
    let steps = c.saturating_sub-steps.result in
    record {
      corners = flat_step (four_edges (columns * steps + x * rows) ((x + 1) * steps) (x * steps)) (face_edges columns rows) x (rows - 1) steps c.loop-x.corners.items c.add_edges.new.corners.items
          c.saturating_sub-steps.ensures (edges_same columns rows x steps c.saturating_sub-steps.ensures) c.loop-x.invariant.corners c.in_ok-add_edges.ensures;
    }
