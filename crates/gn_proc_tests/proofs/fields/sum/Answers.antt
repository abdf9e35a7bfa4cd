use Rattle.std.proofs.Common.{◌≡◌, ◌∷◌, [], None, sym, subst, map, ap, ◌∙◌}
use Rattle.gn_value.specs.Operations.{Takes}
use Rattle.gn_value.specs.declared.value.ValueKind.TheVariants.{Int}
use Rattle.gn_plain.specs.Fields.{kind_of_field}
use Rattle.gn_field.specs.Steps.{exprs_of}
use Rattle.gn_field.specs.Trees.{HaveSources}
use Rattle.gn_proc_tests.proofs.fields.sum.Goals as goal

pub apply-requires-clause-takes : goal.apply-requires-clause-takes
unfolding Takes
apply-requires-clause-takes g c κs within =
    let kind = kind_of_field g.S.Source.sources in
    let p = c.requires.a in
    let q = c.requires.b in
    ap (map kind) c.in_ok-args.ensures ∙ (λ i. p i ∷ q i ∷ [])

pub apply-requires-clause-one_source : goal.apply-requires-clause-one_source
apply-requires-clause-one_source g c κs within = (λ _. None, subst (λ es. HaveSources (λ _. None) (exprs_of es)) (sym c.in_ok-args.ensures) (c.requires.plain_a, (c.requires.plain_b, tt)))
