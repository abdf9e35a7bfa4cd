use Rattle.std.proofs.lemmas.Bool.Decides.{Decides-at}
use Rattle.gn_field.proofs.Same.{input_decides}
use Rattle.gn_field.proofs.input.Input.is_same.Goals as goal

pub returns : goal.returns
returns c = Decides-at _ _ c.eq.ensures (input_decides c.args.self.now c.args.other.now)
