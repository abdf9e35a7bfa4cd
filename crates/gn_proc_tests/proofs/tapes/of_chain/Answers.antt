use Rattle.std.proofs.Common.{◌≡◌, ◌∙◌, ◌∷◌, [], None, sym, subst}
use Rattle.gn_field.specs.Steps.{exprs_of}
use Rattle.gn_field.specs.Trees.{HasSources, HaveSources}
use Rattle.gn_proc_tests.proofs.tapes.of_chain.Goals as goal

pub build-requires-clause-one_source : goal.build-requires-clause-one_source
build-requires-clause-one_source g c κs within =
    let plain : HasSources (λ _. None) c.in_ok-other.other = subst (HasSources (λ _. None)) (sym c.in_ok-other.ensures) tt in
    (λ _. None, subst (λ es. HaveSources (λ _. None) (exprs_of es)) (sym (c.deref.ensures.value ∙ c.in_ok-fields.ensures)) (c.in_ok-field.ensures, (plain, tt)))
