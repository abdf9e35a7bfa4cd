use Rattle.std.proofs.Common.{◌+◌, ◌*◌, refl}
use Rattle.gn_grid.specs.GridLists.{across_pair, across_from_first}
use Rattle.gn_grid.proofs.Growing.{map_step, across_same}
use Rattle.gn_grid.proofs.grids.add_all_across.Goals as goal

pub loop-x-preserved : goal.loop-x-preserved
loop-x-preserved c =
    let columns = c.args.columns in
    let rows = c.args.rows in
    let x = c.loop-x.x in
    record {
      edges = map_step (across_from_first (x * rows) ((x + 1) * rows)) (across_pair columns rows) x rows rows c.args.edges.now.items c.loop-x.edges.items c.add_across.new.edges.items
          refl (across_same columns rows x) c.loop-x.invariant.edges c.in_ok-add_across.ensures;
    }
