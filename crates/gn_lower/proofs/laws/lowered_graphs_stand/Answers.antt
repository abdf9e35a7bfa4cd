use Rattle.std.proofs.Common.{◌≡◌, Some}
use Rattle.gn_stands.specs.Tasks.{task_within}
use Rattle.gn_stands.proofs.Tasks.{found_stands}
use Rattle.gn_found.specs.Filled.{fill_task}
use Rattle.gn_found.proofs.Filling.{task_found}
use Rattle.gn_found.proofs.Differ.{found_differ}
use Rattle.gn_found.proofs.Linked.{found_back}
use Rattle.gn_lower.proofs.laws.lowered_graphs_stand.Goals as goal

pub returns : goal.returns
returns g c given input t graph constants form keeps has_input lowers =
    let found : task_within given t lowers.steps ≡ Some (fill_task given input lowers.task) = task_found given input has_input t lowers.steps lowers.task lowers.found in
    let back = found_back given t lowers.steps (fill_task given input lowers.task) form keeps found in
    record {
      stands = found_stands given t lowers.steps (fill_task given input lowers.task) found;
      differ = found_differ t given lowers.steps (fill_task given input lowers.task) found;
      back = back.0;
      roots = back.1;
    }
