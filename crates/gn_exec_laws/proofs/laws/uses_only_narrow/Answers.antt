use Rattle.gn_exec_laws.proofs.Narrows.{uses_narrow}
use Rattle.gn_exec_laws.proofs.laws.uses_only_narrow.Goals as goal

pub returns : goal.returns
returns g c task start later es r = uses_narrow g.N.NodeMeanings.meanings g.N.NodeMeanings.lawful task start later es r
