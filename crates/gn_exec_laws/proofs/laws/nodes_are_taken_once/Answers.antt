use Rattle.gn_exec_laws.proofs.Counts.{taken_once}
use Rattle.gn_exec_laws.proofs.laws.nodes_are_taken_once.Goals as goal

pub returns : goal.returns
returns g c task start es r = taken_once g.N.NodeMeanings.meanings g.N.NodeMeanings.lawful task start es r
