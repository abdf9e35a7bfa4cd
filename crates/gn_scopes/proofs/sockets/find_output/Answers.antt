use Rattle.std.proofs.Common.{arith}
use Rattle.std.proofs.lemmas.Grind.{common_steps}
use Rattle.gn_scopes.proofs.Naming.{output_named}
use Rattle.gn_scopes.proofs.sockets.find_output.Goals as goal

pub loop-row-preserved : goal.loop-row-preserved
loop-row-preserved c = grind (arith, common_steps, c.name.ensures, output_named c.args.chosen)
