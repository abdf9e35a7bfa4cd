use Rattle.gn_exec_laws.proofs.Fitting.{ready_can_run}
use Rattle.gn_exec_laws.proofs.laws.ready_nodes_can_run.Goals as goal

pub returns : goal.returns
returns g c task start es r n node ready = ready_can_run g.N.NodeMeanings.meanings g.N.NodeMeanings.lawful task start es r n node ready
