use Rattle.gn_stands.proofs.Tasks.{found_stands}
use Rattle.gn_stands.proofs.laws.found_graphs_stand.Goals as goal

pub returns : goal.returns
returns g c given t k task e = found_stands given t k task e
