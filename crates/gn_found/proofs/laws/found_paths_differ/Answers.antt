use Rattle.gn_found.proofs.Differ.{found_differ}
use Rattle.gn_found.proofs.laws.found_paths_differ.Goals as goal

pub returns : goal.returns
returns g c given t k task e = found_differ t given k task e
