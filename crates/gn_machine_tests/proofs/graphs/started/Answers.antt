use Rattle.std.proofs.Common.{map}
use Rattle.gn_machine_tests.proofs.Starting.{can_start}
use Rattle.gn_machine_tests.proofs.graphs.started.Goals as goal

pub new-requires-clause-start : goal.new-requires-clause-start
new-requires-clause-start g c κs within = can_start c.args.graph (map (λ value. value) c.args.given.items) c.look_at.ensures c.requires
