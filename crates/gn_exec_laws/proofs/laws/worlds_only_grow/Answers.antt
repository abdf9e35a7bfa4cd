use Rattle.gn_exec_laws.proofs.Growing.{stays}
use Rattle.gn_exec_laws.proofs.laws.worlds_only_grow.Goals as goal

pub returns : goal.returns
returns g c task start later es r = stays g.N.NodeMeanings.meanings g.N.NodeMeanings.lawful task start later es r
