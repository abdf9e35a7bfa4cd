use Rattle.gn_app.proofs.Saying.{tells_bad_line}
use Rattle.gn_app.proofs.message.tell_bad_line.Goals as goal

pub returns : goal.returns
returns g c = tells_bad_line c.args.line c.args.rule _ _ _ _ c.format-line.ensures.text c.format-rule.ensures.text c.put_pieces.ensures
