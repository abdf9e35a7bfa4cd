use Rattle.std.proofs.Common.{refl, ap, ◌∙◌}
use Rattle.gn_app.specs.Status.{code_of}
use Rattle.gn_shared.specs.Count.{nothing_noted}
use Rattle.geonodes.proofs.run_words.Goals as goal

pub returns-in-Some : goal.returns-in-Some
returns-in-Some g c =
    let code = c.from.ensures ∙ c.code.ensures ∙ ap code_of c.refuse_stray.ensures.status in
    (nothing_noted, rw (c.in-Some.is, ← c.deref.ensures.value, ← c.deref-in-Some.ensures.value) (code, refl, c.refuse_stray.ensures.message))
