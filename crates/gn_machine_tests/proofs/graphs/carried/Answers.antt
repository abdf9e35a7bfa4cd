use Rattle.std.proofs.Common.{ap}
use Rattle.std.specs.Prelude.{is_some}
use Rattle.gn_machine_tests.proofs.Starting.{any_shift}
use Rattle.gn_machine_tests.proofs.graphs.carried.Goals as goal

pub handed-requires-after_bounds : goal.handed-requires-after_bounds
handed-requires-after_bounds g c κs within = ap is_some (any_shift c.args.kinds.now)
