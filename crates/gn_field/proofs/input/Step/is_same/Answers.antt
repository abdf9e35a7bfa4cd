use Rattle.std.proofs.lemmas.Bool.Decides.{Decides-at}
use Rattle.gn_field.proofs.Same.{kept_step_decides}
use Rattle.gn_field.proofs.input.Step.is_same.Goals as goal

pub returns : goal.returns
returns c = Decides-at _ _ c.eq.ensures (kept_step_decides c.args.self c.args.other)
