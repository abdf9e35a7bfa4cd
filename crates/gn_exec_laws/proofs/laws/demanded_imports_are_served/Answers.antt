use Rattle.gn_exec_laws.specs.Graphs.{told_by}
use Rattle.gn_exec_laws.proofs.Counted.{serves_demanded}
use Rattle.gn_exec_laws.proofs.laws.demanded_imports_are_served.Goals as goal

pub returns : goal.returns
returns g c task files den start solves es r =
    serves_demanded g.N.NodeMeanings.meanings g.N.NodeMeanings.lawful task start es r.0 (told_by g.N.NodeMeanings.meanings files) den solves r.1
