use Rattle.std.proofs.Common.{◌++◌, ◌-◌}
use Rattle.std.specs.List.{range_with_len}
use Rattle.std.specs.Prelude.{reverse}
use Rattle.gn_flip.proofs.Steps.{down_none, down_step, down_all}
use Rattle.gn_flip.proofs.order.add_down.Goals as goal

pub loop-above-init : goal.loop-above-init
loop-above-init c = record { numbers = down_none c.args.first c.args.end c.args.numbers.now.items }

pub loop-above-preserved : goal.loop-above-preserved
loop-above-preserved c =
    let all = c.args.numbers.now.items ++ reverse (range_with_len c.args.first (c.args.end - c.args.first)) in
    record { numbers = down_step c.args.first c.args.end c.loop-above.above all c.loop-above.numbers.items c.push.new.self.items c.loop-above-test.true c.loop-above.invariant.numbers c.in_ok-push.ensures.items }

pub returns : goal.returns
returns c =
    let all = c.args.numbers.now.items ++ reverse (range_with_len c.args.first (c.args.end - c.args.first)) in
    down_all c.args.first c.args.end c.loop-above.above all c.loop-above.numbers.items c.loop-above-test.false c.loop-above.invariant.numbers
