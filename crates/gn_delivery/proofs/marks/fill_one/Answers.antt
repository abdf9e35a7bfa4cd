use Rattle.std.proofs.Common.{sym, subst}
use Rattle.gn_delivery.specs.Marks.{Fills}
use Rattle.gn_delivery.proofs.Marking.{one_filled}
use Rattle.gn_delivery.proofs.marks.fill_one.Goals as goal

pub returns-in-Input-clause-nodes : goal.returns-in-Input-clause-nodes
returns-in-Input-clause-nodes c =
    let has = c.requires c.in-Input.node c.in-Input.input c.in-Input.is in
    subst (Fills c.args.uses.now.nodes _) (sym c.fill.ensures.nodes) (one_filled c.args.uses.now.nodes c.args.reader.now c.in-Input.node c.in-Input.input c.in-Input.is has.input)
