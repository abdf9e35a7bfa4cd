use Rattle.gn_exec_laws.specs.Graphs.{told_by}
use Rattle.gn_exec_laws.proofs.Safety.{is_right}
use Rattle.gn_exec_laws.proofs.laws.set_outputs_are_right.Goals as goal

pub returns : goal.returns
returns g c task files den start solves es r =
    is_right g.N.NodeMeanings.meanings g.N.NodeMeanings.lawful task start (told_by g.N.NodeMeanings.meanings files) den solves es r.0 r.1
