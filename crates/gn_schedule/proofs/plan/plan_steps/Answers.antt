use Rattle.std.proofs.Common.{◌≡◌, length, subst, arith}
use Rattle.gn_schedule.specs.Plans.{IsPlanning}
use Rattle.gn_schedule.proofs.plan.plan_steps.Goals as goal

pub returns : goal.returns
returns g c =
    let l = c.loop-at in
    let xs = c.args.steps.now in
    let all : l.at ≡ length xs = omega (arith, c.loop-at-test.false, l.auto.at-end) in
    subst (λ n. IsPlanning g.S.Source.sources xs c.args.readers.now n l.planning) all l.invariant
