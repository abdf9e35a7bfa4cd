use Rattle.std.proofs.Common.{arith, ◌∙◌}
use Rattle.gn_decimal.proofs.Padding.{without_zero}
use Rattle.gn_decimal.proofs.printer.without_zeros.Goals as goal

pub loop-digits-preserved : goal.loop-digits-preserved
loop-digits-preserved c =
    let l = c.loop-digits in
    let shorter = without_zero l.places l.digits l.invariant.some l.invariant.below c.loop-digits-test.true in
    record { some = shorter.some; below = shorter.below; same = shorter.same ∙ l.invariant.same; within = omega arith }
