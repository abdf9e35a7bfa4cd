use Rattle.gn_app.proofs.Spelling.{two_words}
use Rattle.gn_app.proofs.request.check_with.Goals as goal

pub returns-in-Some-split_first : goal.returns-in-Some-split_first
returns-in-Some-split_first c =
    (_, _, two_words _ _ _ _ _ _ c.in-Some.ensures.cases.0 c.in-Some-split_first.ensures.cases.0 c.as_str.ensures.value)
