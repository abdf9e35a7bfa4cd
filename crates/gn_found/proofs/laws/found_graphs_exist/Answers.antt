use Rattle.gn_found.proofs.Exist.{task_exists}
use Rattle.gn_found.proofs.laws.found_graphs_exist.Goals as goal

pub returns : goal.returns
returns c t form keeps = task_exists t keeps form
