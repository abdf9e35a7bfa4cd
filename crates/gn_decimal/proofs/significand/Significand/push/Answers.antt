use Rattle.std.proofs.Common.{arith}
use Rattle.gn_decimal.proofs.Kept.{quotient-kept, quotient-dropped}
use Rattle.gn_decimal.proofs.significand.Significand.push.Goals as goal

pub returns-in-Long-clause-keeps : goal.returns-in-Long-clause-keeps
returns-in-Long-clause-keeps c = λ n h.
    let kept = rw c.in-Long.is at h in
    let more = quotient-kept n c.args.digit c.in-Long.leading c.in-Long.dropped kept.0 kept.2 c.if-leading-lt-LONG_LIMIT.true in
    (rw c.from-in-Long.ensures more, omega arith, λ some. omega (arith, kept.2 some))

pub returns-in-Long-2-clause-keeps : goal.returns-in-Long-2-clause-keeps
returns-in-Long-2-clause-keeps c = λ n h.
    let kept = rw c.in-Long-2.is at h in
    let same = quotient-dropped n c.args.digit c.in-Long-2.dropped c.requires.a_digit in
    grind (arith, same, kept.0, kept.1)
