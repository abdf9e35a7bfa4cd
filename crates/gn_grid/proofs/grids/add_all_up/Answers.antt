use Rattle.std.proofs.Common.{◌-◌, ◌*◌}
use Rattle.gn_grid.specs.GridLists.{up_pair, up_from_first}
use Rattle.gn_grid.proofs.Growing.{map_step, up_same}
use Rattle.gn_grid.proofs.grids.add_all_up.Goals as goal

pub loop-x-preserved : goal.loop-x-preserved
loop-x-preserved c =
    let columns = c.args.columns in
    let rows = c.args.rows in
    let x = c.loop-x.x in
    record {
      edges = map_step (up_from_first (x * rows)) (up_pair columns rows) x (rows - 1) c.saturating_sub-steps.result c.args.edges.now.items c.loop-x.edges.items c.add_up.new.edges.items
          c.saturating_sub-steps.ensures (up_same columns rows x) c.loop-x.invariant.edges c.in_ok-add_up.ensures;
    }
