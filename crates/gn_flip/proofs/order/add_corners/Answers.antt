use Rattle.std.proofs.lemmas.Result.{on_ok_weaker}
use Rattle.gn_flip.proofs.Steps.{first_stays}
use Rattle.gn_flip.proofs.order.add_corners.Goals as goal

pub returns : goal.returns
returns c =
    on_ok_weaker c.add_down.result
    (λ added. first_stays c.args.first c.args.end c.args.is_turned c.args.corners.now.items c.push.new.self.items c.add_down.new.numbers.items c.if-not-is_turned.false c.requires c.in_ok-push.ensures.items added)
    c.add_down.ensures
