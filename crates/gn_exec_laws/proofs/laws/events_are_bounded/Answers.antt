use Rattle.gn_exec_laws.proofs.Counted.{are_bounded}
use Rattle.gn_exec_laws.proofs.laws.events_are_bounded.Goals as goal

pub returns : goal.returns
returns g c task start es r = are_bounded g.N.NodeMeanings.meanings g.N.NodeMeanings.lawful task start es r
