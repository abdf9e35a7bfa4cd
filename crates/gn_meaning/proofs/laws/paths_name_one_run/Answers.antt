use Rattle.gn_meaning.proofs.Paths.{path_names_node, path_of_run}
use Rattle.gn_meaning.proofs.laws.paths_name_one_run.Goals as goal

pub returns : goal.returns
returns c = (path_names_node, path_of_run)
