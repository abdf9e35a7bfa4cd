use Rattle.gn_attr.specs.Columns as attr
use Rattle.gn_pieces.specs.Behind.{values_of}
use Rattle.gn_pieces.proofs.Behind.{one_more_first}
use Rattle.gn_pieces.proofs.values.push_first.Goals as goal

pub loop-element-preserved : goal.loop-element-preserved
loop-element-preserved c =
    one_more_first (values_of c.args.values.now) (values_of c.loop-element.values) (values_of c.push.new.values) (attr.values_of c.args.column.now) c.loop-element.element c.value.result
    c.loop-element.invariant c.value.ensures c.in_ok-push.ensures
