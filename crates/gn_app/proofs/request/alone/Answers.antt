use Rattle.gn_app.proofs.Spelling.{a_word}
use Rattle.gn_app.proofs.request.alone.Goals as goal

pub returns-in-Some : goal.returns-in-Some
returns-in-Some c = (_, a_word _ _ _ _ c.in-Some.ensures.cases.0 c.as_str.ensures.value)
