use Rattle.gn_app.proofs.Saying.{tells_misform}
use Rattle.gn_app.proofs.message.tell_misform.Goals as goal

pub returns : goal.returns
returns g c = tells_misform c.args.rule _ _ _ _ c.format-rule.ensures.text c.put_pieces.ensures
