use Rattle.gn_exec_laws.specs.Graphs.{told_by}
use Rattle.gn_exec_laws.proofs.Listed.{has_one_solution}
use Rattle.gn_exec_laws.proofs.laws.graphs_have_one_solution.Goals as goal

pub returns : goal.returns
returns g c task files start = has_one_solution g.N.NodeMeanings.meanings g.N.NodeMeanings.lawful task start (told_by g.N.NodeMeanings.meanings files)
