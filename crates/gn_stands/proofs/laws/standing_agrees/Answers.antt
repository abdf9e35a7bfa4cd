use Rattle.gn_stands.proofs.Agree.{agrees}
use Rattle.gn_stands.proofs.laws.standing_agrees.Goals as goal

pub returns : goal.returns
returns g c given t task den form keeps all knows stands opens solves = agrees g.N.TreeMeanings.meanings given t task den keeps form knows stands opens solves all
