use Rattle.gn_pieces.specs.Behind.{values_of}
use Rattle.gn_pieces.proofs.Behind.{one_more_time}
use Rattle.gn_pieces.proofs.values.push_times.Goals as goal

pub loop-done-preserved : goal.loop-done-preserved
loop-done-preserved c =
    one_more_time (values_of c.args.values.now) (values_of c.loop-done.values) (values_of c.push.new.values) c.loop-done._done c.args.value c.loop-done.invariant c.in_ok-push.ensures
