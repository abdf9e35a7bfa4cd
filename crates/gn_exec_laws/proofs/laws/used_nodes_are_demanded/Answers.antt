use Rattle.gn_exec_laws.specs.Graphs.{told_by}
use Rattle.gn_exec_laws.proofs.Safety.{uses_demanded}
use Rattle.gn_exec_laws.proofs.laws.used_nodes_are_demanded.Goals as goal

pub returns : goal.returns
returns g c task files den start solves es r =
    uses_demanded g.N.NodeMeanings.meanings g.N.NodeMeanings.lawful task start (told_by g.N.NodeMeanings.meanings files) den solves es r.0 r.1
