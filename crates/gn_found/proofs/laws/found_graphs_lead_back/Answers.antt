use Rattle.gn_found.proofs.Linked.{found_back}
use Rattle.gn_found.proofs.laws.found_graphs_lead_back.Goals as goal

pub returns : goal.returns
returns g c given t k task form keeps e = found_back given t k task form keeps e
