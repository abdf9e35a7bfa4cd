use Rattle.std.proofs.Common.{◌≡◌, ◌+◌, ◌-◌, length, subst, arith}
use Rattle.gn_field.proofs.Grown.{below_at}
use Rattle.gn_schedule.specs.Asked.{IsAsking}
use Rattle.gn_schedule.proofs.Asking.{asked_roots}
use Rattle.gn_schedule.proofs.asked.asked_places.Goals as goal

pub ask-requires : goal.ask-requires
ask-requires g c = λ k d h. omega (arith, below_at (length c.args.steps.now) c.args.roots.now k d c.requires.within h, c.in_ok-table.ensures.len)

pub loop-at-init : goal.loop-at-init
loop-at-init g c =
    let long : length c.in_ok-table.table.items ≡ length c.args.steps.now = omega (arith, c.in_ok-table.ensures.len) in
    (asked_roots c.args.steps.now c.args.roots.now c.args.place c.one.result c.in_ok-table.table.items c.ask.new.table.items c.one.ensures long c.ask.ensures, omega arith)

pub loop-at-preserved : goal.loop-at-preserved
loop-at-preserved g c =
    let l = c.loop-at in
    let back : l.at ≡ l.at - 1 + 1 = omega (arith, c.loop-at-test.true) in
    (c.ask_for_step.ensures c.args.roots.now c.args.place (subst (λ n. IsAsking c.args.steps.now c.args.roots.now c.args.place n l.table.items) back l.invariant.0), omega (arith, l.invariant.1))

pub returns : goal.returns
returns g c =
    let l = c.loop-at in
    let none : l.at ≡ 0 = omega (arith, c.loop-at-test.false) in
    subst (λ n. IsAsking c.args.steps.now c.args.roots.now c.args.place n l.table.items) none l.invariant.0
