use Rattle.gn_exec_laws.specs.Graphs.{told_by}
use Rattle.gn_exec_laws.proofs.Listed.{has_list}
use Rattle.gn_exec_laws.proofs.laws.demands_can_be_listed.Goals as goal

pub returns : goal.returns
returns g c task files den start solves = has_list g.N.NodeMeanings.meanings g.N.NodeMeanings.lawful task start (told_by g.N.NodeMeanings.meanings files) den solves
