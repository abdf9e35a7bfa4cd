use Rattle.gn_stands.proofs.Plain.{paths_plain}
use Rattle.gn_stands.proofs.laws.standing_paths_are_plain.Goals as goal

pub returns : goal.returns
returns g c given t task stands node h = paths_plain t given task stands node h
