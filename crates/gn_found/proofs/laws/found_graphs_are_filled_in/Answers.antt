use Rattle.gn_found.proofs.Filling.{task_found}
use Rattle.gn_found.proofs.laws.found_graphs_are_filled_in.Goals as goal

pub returns : goal.returns
returns g c given input t k task has_input e = task_found given input has_input t k task e
