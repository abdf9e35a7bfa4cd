use Rattle.gn_exec_laws.specs.Graphs.{told_by}
use Rattle.gn_exec_laws.proofs.Right.{one_there}
use Rattle.gn_exec_laws.proofs.laws.paths_name_one_node.Goals as goal

pub returns : goal.returns
returns g c task files den start x y a b e = one_there g.N.NodeMeanings.meanings g.N.NodeMeanings.lawful task start (told_by g.N.NodeMeanings.meanings files) den x y a b e
