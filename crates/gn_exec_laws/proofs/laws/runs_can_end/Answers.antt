use Rattle.gn_exec_laws.specs.Graphs.{told_by}
use Rattle.gn_exec_laws.proofs.Progress.{can_end}
use Rattle.gn_exec_laws.proofs.laws.runs_can_end.Goals as goal

pub returns : goal.returns
returns g c task files start es r calm = can_end g.N.NodeMeanings.meanings g.N.NodeMeanings.lawful task start (told_by g.N.NodeMeanings.meanings files) es r.0 r.1 calm
