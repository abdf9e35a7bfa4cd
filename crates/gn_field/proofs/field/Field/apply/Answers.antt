use Rattle.std.proofs.Common.{◌≡◌, ◌≤◌, sym, subst, refl, IfOk, OnOk, IfErr}
use Rattle.gn_value.specs.Operations.{Takes}
use Rattle.gn_plain.specs.Fields.{Expr, apply}
use Rattle.gn_field.specs.declared.step.FieldStep.{FieldStep}
use Rattle.gn_field.specs.declared.step.FieldStep.TheVariants.{Apply}
use Rattle.gn_field.specs.Steps.{exprs_of}
use Rattle.gn_field.specs.Kinds.{HasKinds}
use Rattle.gn_field.specs.Merged.{Makes, Gathers}
use Rattle.gn_field.specs.Faults.{IsFieldFault}
use Rattle.gn_field.proofs.Facts.{kinds_are}
use Rattle.gn_field.proofs.Roots.{applies, is_last, count_is}
use Rattle.gn_field.proofs.field.Field.apply.Goals as goal

pub finish-requires-clause-makes : goal.finish-requires-clause-makes
finish-requires-clause-makes g c κs within =
    let src = g.S.Source.sources in
    let tk = g.S.Source.taken in
    let es = c.args.args.items in
    let xs = c.in_ok-steps.field-0.steps.items in
    let x : FieldStep g.row.S.Denot = Apply c.args.op c.in_ok-steps.field-0.roots in
    let e : Expr g.row.S.Denot = apply c.args.op (exprs_of c.args.args.items) in
    let all : Gathers src tk es xs c.in_ok-steps.field-0.roots.items = c.in_ok-steps.ensures in
    let kinds : HasKinds src tk e = (subst (Takes c.args.op) (sym (kinds_are src es)) c.requires.takes, all.kinds) in
    let m : Makes src tk es xs x e = applies src tk es xs c.in_ok-steps.field-0.roots.items all c.args.op x refl (λ table. tt) kinds in
    record { args = es; field = e; makes = m; one_source = c.requires.one_source }

pub returns-clause-field : goal.returns-clause-field
returns-clause-field g c =
    let src = g.S.Source.sources in
    let tk = g.S.Source.taken in
    let es = c.args.args.items in
    let xs = c.in_ok-steps.field-0.steps.items in
    let x : FieldStep g.row.S.Denot = Apply c.args.op c.in_ok-steps.field-0.roots in
    let e : Expr g.row.S.Denot = apply c.args.op (exprs_of c.args.args.items) in
    let all : Gathers src tk es xs c.in_ok-steps.field-0.roots.items = c.in_ok-steps.ensures in
    let kinds : HasKinds src tk e = (subst (Takes c.args.op) (sym (kinds_are src es)) c.requires.takes, all.kinds) in
    let m : Makes src tk es xs x e = applies src tk es xs c.in_ok-steps.field-0.roots.items all c.args.op x refl (λ table. tt) kinds in
    subst (λ f. IfOk c.finish.result (λ r. r ≡ f)) (is_last src tk es xs x e m c.requires.one_source.0 c.requires.one_source.1) c.finish.ensures.field

pub returns-clause-few : goal.returns-clause-few
returns-clause-few g c =
    let src = g.S.Source.sources in
    let tk = g.S.Source.taken in
    let es = c.args.args.items in
    let xs = c.in_ok-steps.field-0.steps.items in
    let x : FieldStep g.row.S.Denot = Apply c.args.op c.in_ok-steps.field-0.roots in
    let e : Expr g.row.S.Denot = apply c.args.op (exprs_of c.args.args.items) in
    let all : Gathers src tk es xs c.in_ok-steps.field-0.roots.items = c.in_ok-steps.ensures in
    let kinds : HasKinds src tk e = (subst (Takes c.args.op) (sym (kinds_are src es)) c.requires.takes, all.kinds) in
    let m : Makes src tk es xs x e = applies src tk es xs c.in_ok-steps.field-0.roots.items all c.args.op x refl (λ table. tt) kinds in
    subst (λ n. OnOk c.finish.result (n ≤ 4096)) (sym (count_is src tk es xs x e m)) c.finish.ensures.few

pub returns-clause-fault : goal.returns-clause-fault
returns-clause-fault g c =
    let src = g.S.Source.sources in
    let tk = g.S.Source.taken in
    let es = c.args.args.items in
    let xs = c.in_ok-steps.field-0.steps.items in
    let x : FieldStep g.row.S.Denot = Apply c.args.op c.in_ok-steps.field-0.roots in
    let e : Expr g.row.S.Denot = apply c.args.op (exprs_of c.args.args.items) in
    let all : Gathers src tk es xs c.in_ok-steps.field-0.roots.items = c.in_ok-steps.ensures in
    let kinds : HasKinds src tk e = (subst (Takes c.args.op) (sym (kinds_are src es)) c.requires.takes, all.kinds) in
    let m : Makes src tk es xs x e = applies src tk es xs c.in_ok-steps.field-0.roots.items all c.args.op x refl (λ table. tt) kinds in
    subst (λ n. IfErr c.finish.result (IsFieldFault n)) (sym (count_is src tk es xs x e m)) c.finish.ensures.fault
