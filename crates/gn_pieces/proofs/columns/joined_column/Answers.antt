use Rattle.std.proofs.Common.{refl}
use Rattle.gn_attr.specs.Names.{plain_name}
use Rattle.gn_pieces.specs.Behind.{values_of}
use Rattle.gn_pieces.proofs.Steps.{one_more_value}
use Rattle.gn_pieces.proofs.columns.joined_column.Goals as goal

pub loop-view-preserved : goal.loop-view-preserved
loop-view-preserved c =
    one_more_value c.args.kind (record { name = plain_name c.args.name.now; place = c.args.place; column = c.args.kind }) (values_of c.loop-view.values) (values_of c.push_named.new.values) c.args.component c.args.views.now
    c.loop-view.view-index c.view-item.result refl c.loop-view-test.true c.view-item.is c.loop-view.invariant c.in_ok-push_named.ensures
