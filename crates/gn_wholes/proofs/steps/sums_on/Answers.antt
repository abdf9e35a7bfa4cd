use Rattle.std.proofs.Common.{◌≡◌, ◌∙◌, ◌<◌, ℕ, pos, map, sym, ap, subst, arith}
use Rattle.std.specs.List.{range_with_len}
use Rattle.std.proofs.lemmas.Result.{IfOk-weaker}
use Rattle.gn_value.specs.Registers.{register_kind, register_len, register_value}
use Rattle.gn_value.specs.Values.{as_int}
use Rattle.gn_value.specs.declared.value.ValueKind.TheVariants.{Int}
use Rattle.gn_plain.specs.Contexts.{length_of}
use Rattle.gn_plain.specs.Fields.{elsewhere, accumulate}
use Rattle.gn_field.specs.Steps.{built, named, exprs_of, plain_part}
use Rattle.gn_interp.specs.Numbers.{number_at}
use Rattle.gn_wholes.specs.Contexts.{IsBrought}
use Rattle.gn_wholes.specs.Covers.{GivesWhole}
use Rattle.gn_wholes.proofs.Arguments.{two_given, len_is, sums_give, integer_in}
use Rattle.gn_wholes.proofs.steps.sums_on.Goals as goal

pub index-requires : goal.index-requires
index-requires g c =
    let there = g.C.Context.meaning c.args.source.now in
    let two = two_given g.S.Source.sources there (range_with_len 0 (length_of there)) c.args.step.0 Int (map (named (built c.args.steps.now)) c.args.args.now) c.in_ok-arguments.arguments.items c.requires.kinds c.in_ok-arguments.ensures.give in
    omega (arith, two.0)

pub index-requires-2 : goal.index-requires-2
index-requires-2 g c =
    let there = g.C.Context.meaning c.args.source.now in
    let two = two_given g.S.Source.sources there (range_with_len 0 (length_of there)) c.args.step.0 Int (map (named (built c.args.steps.now)) c.args.args.now) c.in_ok-arguments.arguments.items c.requires.kinds c.in_ok-arguments.ensures.give in
    omega (arith, two.0)

pub sums-requires-clause-few : goal.sums-requires-clause-few
sums-requires-clause-few g c =
    let src = g.S.Source.sources in
    let there = g.C.Context.meaning c.args.source.now in
    let two = two_given src there (range_with_len 0 (length_of there)) c.args.step.0 Int (map (named (built c.args.steps.now)) c.args.args.now) c.in_ok-arguments.arguments.items c.requires.kinds c.in_ok-arguments.ensures.give in
    let t = two.1 c.index.result.now c.index-2.result.now c.index.ensures c.index-2.ensures in
    omega (arith, len_is src there t.e c.index.result.now t.gives_e, c.in_ok-arguments.ensures.few)

pub sums-requires-clause-long : goal.sums-requires-clause-long
sums-requires-clause-long g c =
    let src = g.S.Source.sources in
    let there = g.C.Context.meaning c.args.source.now in
    let v = c.index.result.now in
    let w = c.index-2.result.now in
    let two = two_given src there (range_with_len 0 (length_of there)) c.args.step.0 Int (map (named (built c.args.steps.now)) c.args.args.now) c.in_ok-arguments.arguments.items c.requires.kinds c.in_ok-arguments.ensures.give in
    let t = two.1 v w c.index.ensures c.index-2.ensures in
    c.list.ensures.len (t.gives_f.kind ∙ t.kind_f) ∙ (len_is src there t.f w t.gives_f ∙ sym (len_is src there t.e v t.gives_e))

pub bring_here-requires-clause-long : goal.bring_here-requires-clause-long
bring_here-requires-clause-long g c =
    let src = g.S.Source.sources in
    let there = g.C.Context.meaning c.args.source.now in
    let v = c.index.result.now in
    let two = two_given src there (range_with_len 0 (length_of there)) c.args.step.0 Int (map (named (built c.args.steps.now)) c.args.args.now) c.in_ok-arguments.arguments.items c.requires.kinds c.in_ok-arguments.ensures.give in
    let t = two.1 v c.index-2.result.now c.index.ensures c.index-2.ensures in
    c.in_ok-sums.ensures.len ∙ (len_is src there t.e v t.gives_e ∙ ap length_of c.requires.source)

pub returns : goal.returns
returns g c =
    let src = g.S.Source.sources in
    let here = g.C.Context.meaning c.args.context.now in
    let there = g.C.Context.meaning c.args.source.now in
    let kind = c.args.step.0 in
    let place = c.args.step.1 in
    let part = plain_part c.args.step.2 in
    let v = c.index.result.now in
    let w = c.index-2.result.now in
    let groups = c.list.result.now in
    let s = c.in_ok-sums.sums in
    let es = map (named (built c.args.steps.now)) c.args.args.now in
    let two = two_given src there (range_with_len 0 (length_of there)) kind Int es c.in_ok-arguments.arguments.items c.requires.kinds c.in_ok-arguments.ensures.give in
    let t = two.1 v w c.index.ensures c.index-2.ensures in
    let kind_w : register_kind w ≡ Int = t.gives_f.kind ∙ t.kind_f in
    let numbers : (j : ℕ) → j < register_len w → number_at groups j ≡ as_int (register_value j w) =
    λ j below. c.list.ensures.values kind_w j (pos 0) (subst (λ n. j < n) (sym (c.list.ensures.len kind_w)) below) ∙ integer_in w kind_w j in
    IfOk-weaker c.bring_here.result (λ r. IsBrought here place s r) (λ r. GivesWhole src here (elsewhere (accumulate kind place part) (exprs_of es)) r)
    (λ r is. subst (λ as'. GivesWhole src here (elsewhere (accumulate kind place part) as') r) (sym t.es_are)
    (sums_give src here kind place part t.e t.f v w s r groups c.requires.has t.kind_e (subst (λ d. GivesWhole src d t.e v) c.requires.source t.gives_e) (subst (λ d. GivesWhole src d t.f w) c.requires.source t.gives_f) numbers c.in_ok-sums.ensures.kind c.in_ok-sums.ensures.len c.in_ok-sums.ensures.sums is))
    c.bring_here.ensures
