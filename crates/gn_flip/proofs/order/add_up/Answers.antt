use Rattle.std.proofs.Common.{◌≡◌, ◌∙◌, ◌++◌, ◌-◌, ap, arith}
use Rattle.std.specs.List.{range_with_len}
use Rattle.gn_flip.proofs.Steps.{up_none, up_step}
use Rattle.gn_flip.proofs.order.add_up.Goals as goal

pub loop-number-init : goal.loop-number-init
loop-number-init c = record { numbers = up_none c.args.first c.args.numbers.now.items }

pub loop-number-preserved : goal.loop-number-preserved
loop-number-preserved c = record { numbers = up_step c.args.first c.loop-number.number c.args.numbers.now.items c.loop-number.numbers.items c.push.new.self.items c.loop-number.auto.number c.loop-number.invariant.numbers c.in_ok-push.ensures.items }

pub returns : goal.returns
returns c =
    let ends : c.loop-number.number - c.args.first ≡ c.args.end - c.args.first = omega (arith, c.loop-number-test.false, c.loop-number.auto.number-end, c.requires) in
    c.loop-number.invariant.numbers ∙ ap (λ n. c.args.numbers.now.items ++ range_with_len c.args.first n) ends
