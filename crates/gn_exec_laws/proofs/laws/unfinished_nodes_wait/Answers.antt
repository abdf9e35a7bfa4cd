use Rattle.gn_exec_laws.specs.Graphs.{told_by}
use Rattle.gn_exec_laws.proofs.Waits.{unfinished_waits}
use Rattle.gn_exec_laws.proofs.laws.unfinished_nodes_wait.Goals as goal

pub returns : goal.returns
returns g c task files den start solves es r node demanded not =
    unfinished_waits g.N.NodeMeanings.meanings g.N.NodeMeanings.lawful task start (told_by g.N.NodeMeanings.meanings files) den solves es r.0 r.1 node demanded
