use Rattle.gn_exec_laws.proofs.Events.{leads_on}
use Rattle.gn_exec_laws.proofs.laws.zone_outputs_lead_on.Goals as goal

pub returns : goal.returns
returns g c task start es r = leads_on g.N.NodeMeanings.meanings g.N.NodeMeanings.lawful task start es r
