use Rattle.std.proofs.Common.{◌≡◌, IfOk, subst}
use Rattle.gn_value.specs.Values.{kind_of}
use Rattle.gn_plain.specs.Fields as plain
use Rattle.gn_plain.specs.Fields.{kind_of_field}
use Rattle.gn_proc.proofs.OneField.{last_named, steps_runnable}
use Rattle.gn_proc.proofs.element.at.Goals as goal

pub step_at-requires-clause-steps : goal.step_at-requires-clause-steps
step_at-requires-clause-steps g c κs within =
    let made = c.steps-steps.ensures in
    steps_runnable g.S.Source.sources g.S.Source.taken c.steps-steps.result.now made.merged.back made.few made.each

pub returns-clause-value : goal.returns-clause-value
returns-clause-value g c =
    let src = g.S.Source.sources in
    let here = g.C.Context.meaning c.args.context.now in
    subst (λ e. IfOk c.step_at.result (λ value. value ≡ plain.at src e here c.args.element)) (last_named c.steps-steps.result.now c.args.field.now c.steps-steps.ensures.field) c.step_at.ensures.value

pub returns-clause-kind : goal.returns-clause-kind
returns-clause-kind g c =
    let src = g.S.Source.sources in
    subst (λ e. IfOk c.step_at.result (λ value. kind_of value ≡ kind_of_field src e)) (last_named c.steps-steps.result.now c.args.field.now c.steps-steps.ensures.field) c.step_at.ensures.kind
