use Rattle.std.proofs.Common.{◌<◌, ◌∙◌, ap, subst, sym}
use Rattle.std.specs.Prelude.{All}
use Rattle.gn_value.specs.Values.{kind_of}
use Rattle.gn_field.specs.Steps.{named, built}
use Rattle.gn_slots.proofs.Reading.{there_on, zero_kind, gives_zero, whole_gives, whole_long, picked}
use Rattle.gn_slots.proofs.execute.read_whole.Goals as goal

pub fill-requires : goal.fill-requires
fill-requires g c = c.requires.of_kind ∙ (sym (zero_kind c.args.kind) ∙ ap kind_of (sym c.zero.ensures))

pub returns-in-None : goal.returns-in-None
returns-in-None g c =
    let e = named (built c.args.steps.now) c.args.at in
    gives_zero g.S.Source.sources (g.C.Context.meaning c.args.context.now) c.args.elements.now e c.args.kind c.fill.new.into c.in-None.ensures c.requires.kind c.requires.zero (c.fill.ensures.kind ∙ c.requires.of_kind) (c.fill.ensures.len ∙ c.requires.long)
    (λ k h. c.fill.ensures.values k (subst (λ n. k < n) (sym c.requires.long) h) ∙ c.zero.ensures)

pub unreachable-requires : goal.unreachable-requires
unreachable-requires g c =
    c.in_default.ensures.none (there_on (g.C.Context.meaning c.args.context.now) c.args.wholes.now c.args.at c.in-Some.place c.in-Some.ensures c.requires.there)

pub pick-requires-clause-kind : goal.pick-requires-clause-kind
pick-requires-clause-kind g c =
    let gives = whole_gives g.S.Source.sources (built c.args.steps.now) (g.C.Context.meaning c.args.context.now) c.args.wholes.now c.args.at c.in-Some.place c.in-Some-find.values.now c.in-Some.ensures c.requires.whole c.in-Some-find.ensures.found in
    c.requires.of_kind ∙ sym (gives.kind ∙ c.requires.kind)

pub pick-requires-clause-within : goal.pick-requires-clause-within
pick-requires-clause-within g c =
    let ctx = g.C.Context.meaning c.args.context.now in
    let e = named (built c.args.steps.now) c.args.at in
    let values = c.in-Some-find.values.now in
    let gives = whole_gives g.S.Source.sources (built c.args.steps.now) ctx c.args.wholes.now c.args.at c.in-Some.place values c.in-Some.ensures c.requires.whole c.in-Some-find.ensures.found in
    subst (λ m. All (λ n. n < m) c.args.elements.now) (sym (whole_long g.S.Source.sources ctx e values gives)) c.requires.within

pub returns-in-Some-find : goal.returns-in-Some-find
returns-in-Some-find g c =
    let ctx = g.C.Context.meaning c.args.context.now in
    let e = named (built c.args.steps.now) c.args.at in
    let values = c.in-Some-find.values.now in
    let gives = whole_gives g.S.Source.sources (built c.args.steps.now) ctx c.args.wholes.now c.args.at c.in-Some.place values c.in-Some.ensures c.requires.whole c.in-Some-find.ensures.found in
    picked g.S.Source.sources ctx c.args.elements.now e values c.pick.new.into gives c.requires.within (c.pick.ensures.kind ∙ (c.requires.of_kind ∙ sym (gives.kind ∙ c.requires.kind))) (c.pick.ensures.len ∙ c.requires.long)
    (λ k h. c.pick.ensures.values k (subst (λ n. k < n) (sym c.requires.long) h))
