use Rattle.gn_exec_laws.proofs.Counted.{serves_once}
use Rattle.gn_exec_laws.proofs.laws.imports_are_served_once.Goals as goal

pub returns : goal.returns
returns g c task start es r = serves_once g.N.NodeMeanings.meanings g.N.NodeMeanings.lawful task start es r
