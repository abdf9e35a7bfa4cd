use Rattle.std.proofs.Common.{◌≤◌, length, subst, arith}
use Rattle.std.proofs.lemmas.List.{take_all}
use Rattle.gn_field.specs.Steps.{built}
use Rattle.gn_schedule.specs.Plans.{held}
use Rattle.gn_slots.specs.Registers.{AreSlots, IsRun}
use Rattle.gn_slots.proofs.Running.{none_run}
use Rattle.gn_slots.proofs.run.run_plan.Goals as goal

pub loop-at-init : goal.loop-at-init
loop-at-init g c =
    let src = g.S.Source.sources in
    let ctx = g.C.Context.meaning c.args.context.now in
    let ns = c.args.elements.now in
    let rs = c.in_ok-registers.registers.items in
    let kinds = c.args.plan.now.kinds.items in
    let slots : AreSlots (length ns) kinds rs =
    subst (λ ks. AreSlots (length ns) ks rs) c.deref.ensures.value c.in_ok-registers.ensures in
    none_run src (built c.args.steps.now) ctx ns kinds rs slots

pub returns : goal.returns
returns g c =
    let l = c.loop-at in
    let src = g.S.Source.sources in
    let ctx = g.C.Context.meaning c.args.context.now in
    let is = c.args.plan.now.instructions.items in
    let over : length is ≤ l.at = omega arith in
    subst (λ ys. IsRun src (built c.args.steps.now) ctx c.args.elements.now c.args.plan.now.kinds.items (held ys) l.registers.items) (take_all l.at is over) l.invariant
