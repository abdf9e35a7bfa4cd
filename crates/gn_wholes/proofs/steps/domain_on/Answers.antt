use Rattle.std.proofs.Common.{◌∙◌, map, sym, ap, subst, arith}
use Rattle.std.specs.List.{range_with_len}
use Rattle.std.proofs.lemmas.Result.{IfOk-weaker}
use Rattle.gn_plain.specs.Contexts.{length_of}
use Rattle.gn_plain.specs.Fields.{elsewhere, on_domain}
use Rattle.gn_field.specs.Steps.{built, named, exprs_of}
use Rattle.gn_wholes.specs.Contexts.{IsBrought}
use Rattle.gn_wholes.specs.Covers.{GivesWhole}
use Rattle.gn_wholes.proofs.Arguments.{one_given, len_is, domain_gives}
use Rattle.gn_wholes.proofs.steps.domain_on.Goals as goal

pub swap_remove-values-requires : goal.swap_remove-values-requires
swap_remove-values-requires g c =
    let there = g.C.Context.meaning c.args.source.now in
    let one = one_given g.S.Source.sources there (range_with_len 0 (length_of there)) c.args.step.0 (map (named (built c.args.steps.now)) c.args.args.now) c.in_ok-arguments.arguments.items c.requires.kinds c.in_ok-arguments.ensures.give in
    omega (arith, one.0)

pub bring_here-requires-clause-long : goal.bring_here-requires-clause-long
bring_here-requires-clause-long g c =
    let src = g.S.Source.sources in
    let there = g.C.Context.meaning c.args.source.now in
    let v = c.swap_remove-values.result in
    let one = one_given src there (range_with_len 0 (length_of there)) c.args.step.0 (map (named (built c.args.steps.now)) c.args.args.now) c.in_ok-arguments.arguments.items c.requires.kinds c.in_ok-arguments.ensures.give in
    let t = one.1 v c.swap_remove-values.ensures.value in
    len_is src there t.e v t.gives ∙ ap length_of c.requires.source

pub returns : goal.returns
returns g c =
    let src = g.S.Source.sources in
    let here = g.C.Context.meaning c.args.context.now in
    let there = g.C.Context.meaning c.args.source.now in
    let kind = c.args.step.0 in
    let place = c.args.step.1 in
    let v = c.swap_remove-values.result in
    let es = map (named (built c.args.steps.now)) c.args.args.now in
    let one = one_given src there (range_with_len 0 (length_of there)) kind es c.in_ok-arguments.arguments.items c.requires.kinds c.in_ok-arguments.ensures.give in
    let t = one.1 v c.swap_remove-values.ensures.value in
    IfOk-weaker c.bring_here.result (λ r. IsBrought here place v r) (λ r. GivesWhole src here (elsewhere (on_domain kind place) (exprs_of es)) r)
    (λ r is. subst (λ as'. GivesWhole src here (elsewhere (on_domain kind place) as') r) (sym t.es_are)
    (domain_gives src here kind place t.e v r c.requires.has t.kind (subst (λ d. GivesWhole src d t.e v) c.requires.source t.gives) is))
    c.bring_here.ensures
