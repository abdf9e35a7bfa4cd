use Rattle.gn_exec_laws.specs.Graphs.{told_by}
use Rattle.gn_exec_laws.proofs.Ends.{ends_well}
use Rattle.gn_exec_laws.proofs.laws.runs_end_well.Goals as goal

pub returns : goal.returns
returns g c task files den start solves es r over =
    ends_well g.N.NodeMeanings.meanings g.N.NodeMeanings.lawful task start es r.0 over (told_by g.N.NodeMeanings.meanings files) den solves r.1
