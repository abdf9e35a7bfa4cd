use Rattle.gn_exec_laws.proofs.Counts.{tags_agree}
use Rattle.gn_exec_laws.proofs.laws.tags_of_set_outputs_agree.Goals as goal

pub returns : goal.returns
returns g c task start es r = tags_agree g.N.NodeMeanings.meanings g.N.NodeMeanings.lawful task start es r
