use Rattle.gn_app.proofs.Spelling.{three_words}
use Rattle.gn_app.proofs.request.eval_with.Goals as goal

pub returns-in-Some-split_first-2 : goal.returns-in-Some-split_first-2
returns-in-Some-split_first-2 c =
    (_, _, _, three_words _ _ _ _ _ _ _ _ c.in-Some.ensures.cases.0 c.in-Some-split_first.ensures.cases.0 c.in-Some-split_first-2.ensures.cases.0 c.as_str.ensures.value)
