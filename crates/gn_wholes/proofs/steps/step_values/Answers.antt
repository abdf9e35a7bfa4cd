use Rattle.std.proofs.Common.{◌≡◌, Option, map, subst}
use Rattle.std.specs.Prelude.{option_map}
use Rattle.std.proofs.lemmas.Result.{IfOk-weaker}
use Rattle.gn_value.specs.declared.value.ValueKind.{ValueKind}
use Rattle.gn_plain.specs.Contexts.{length_of}
use Rattle.gn_plain.specs.Fields.{elsewhere, place_of_step}
use Rattle.gn_field.specs.Contexts.{on_place}
use Rattle.gn_field.specs.Steps.{built, named, exprs_of, step_of}
use Rattle.gn_wholes.specs.Contexts.{HasPlace}
use Rattle.gn_wholes.specs.Covers.{GivesWhole, IsConstant}
use Rattle.gn_wholes.proofs.Arguments.{zero_gives}
use Rattle.gn_wholes.proofs.Places.{none_is}
use Rattle.gn_wholes.proofs.steps.step_values.Goals as goal

pub returns-in_default : goal.returns-in_default
returns-in_default g c =
    let src = g.S.Source.sources in
    let here = g.C.Context.meaning c.args.context.now in
    let step = step_of c.args.step in
    let args = exprs_of (map (named (built c.args.steps.now)) c.args.args.now) in
    let without : ¬ HasPlace here c.place_of_step.result =
    none_is here c.place_of_step.result (subst (λ (o : Option g.row.C.Denot). option_map g.C.Context.meaning o ≡ on_place here c.place_of_step.result) c.in_default.is c.in_ok-source.ensures) in
    let lacks : ¬ HasPlace here (place_of_step step) = subst (λ p. ¬ HasPlace here p) c.place_of_step.ensures without in
    IfOk-weaker c.zero_on.result (λ r. IsConstant c.kind.result (length_of here) r) (λ r. GivesWhole src here (elsewhere step args) r)
    (λ r is. zero_gives src here step args r lacks (subst (λ (k : ValueKind). IsConstant k (length_of here) r) c.kind.ensures is))
    c.zero_on.ensures
