use Rattle.std.proofs.Common.{◌≡◌, ◌<◌, ◌+◌, ◌-◌, length, subst, arith}
use Rattle.gn_field.proofs.Grown.{below_at}
use Rattle.gn_schedule.specs.Plans.{IsReading}
use Rattle.gn_schedule.proofs.Reading.{read_roots, all_read}
use Rattle.gn_schedule.proofs.readers.last_readers.Goals as goal

pub mark-requires : goal.mark-requires
mark-requires g c = λ k d h. omega (arith, below_at (length c.args.steps.now) c.args.roots.now k d c.requires.within h, c.in_ok-readers.ensures.len)

pub loop-at-init : goal.loop-at-init
loop-at-init g c =
    let long : length c.in_ok-readers.readers.items ≡ length c.args.steps.now = omega (arith, c.in_ok-readers.ensures.len) in
    (read_roots c.args.steps.now c.args.roots.now c.in_ok-readers.readers.items c.mark.new.readers.items long c.in_ok-readers.ensures.none c.mark.ensures, omega arith)

pub loop-at-preserved : goal.loop-at-preserved
loop-at-preserved g c =
    let l = c.loop-at in
    let xs = c.args.steps.now in
    let roots = c.args.roots.now in
    let some : 0 < l.at = c.loop-at-test.true in
    let back : l.at ≡ l.at - 1 + 1 = omega arith in
    (c.mark_step.ensures roots (subst (λ n. IsReading xs roots n l.readers.items) back l.invariant.0), omega (arith, l.invariant.1))

pub returns-clause-readers : goal.returns-clause-readers
returns-clause-readers g c =
    let l = c.loop-at in
    let none : l.at ≡ 0 = omega (arith, c.loop-at-test.false) in
    all_read c.args.steps.now c.args.roots.now l.readers.items (subst (λ n. IsReading c.args.steps.now c.args.roots.now n l.readers.items) none l.invariant.0)

pub returns-clause-roots : goal.returns-clause-roots
returns-clause-roots g c = c.loop-at.invariant.0.roots_read

pub returns-clause-only : goal.returns-clause-only
returns-clause-only g c = c.loop-at.invariant.0.only
