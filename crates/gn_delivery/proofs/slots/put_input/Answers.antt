use Rattle.std.proofs.Common.{◌<◌, length, arith}
use Rattle.gn_delivery.proofs.Slotting.{one_row}
use Rattle.gn_delivery.proofs.slots.put_input.Goals as goal

pub returns : goal.returns
returns g c roots =
    let inside : c.args.node < length c.args.rows.now.items = omega (arith, c.if-len-node.false, c.len.ensures) in
    one_row c.args.rows.now.items roots c.args.node c.args.input c.args.value c.put.new.slots c.index_mut.result.now inside c.index_mut.ensures.value c.put.ensures
