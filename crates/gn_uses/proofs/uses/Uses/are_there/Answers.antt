use Rattle.gn_uses.proofs.Rooms.{none_missing, one_more_there}
use Rattle.gn_uses.proofs.uses.Uses.are_there.Goals as goal

pub returns-then-not-is_there : goal.returns-then-not-is_there
returns-then-not-is_there c =
    none_missing c.args.self.now.nodes.sizes c.args.inputs.now c.loop-input.input-index c.loop-input-test.true c.is_there.result c.is_there.ensures c.if-not-is_there.true

pub loop-input-preserved : goal.loop-input-preserved
loop-input-preserved c =
    one_more_there c.args.self.now.nodes.sizes c.args.inputs.now c.loop-input.input-index c.loop-input-test.true c.is_there.result c.is_there.ensures c.if-not-is_there.false c.loop-input.invariant
