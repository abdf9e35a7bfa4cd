use Rattle.gn_exec_laws.proofs.Fitting.{world_fits}
use Rattle.gn_exec_laws.proofs.laws.worlds_fit.Goals as goal

pub returns : goal.returns
returns g c task start es r = world_fits g.N.NodeMeanings.meanings g.N.NodeMeanings.lawful task start es r
