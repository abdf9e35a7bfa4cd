use Rattle.std.proofs.Common.{arith}
use Rattle.std.proofs.lemmas.Grind.{common_steps}
use Rattle.gn_scopes.proofs.Naming.{input_named}
use Rattle.gn_scopes.proofs.sockets.find_input.Goals as goal

pub returns-then-eq : goal.returns-then-eq
returns-then-eq c = grind (arith, common_steps, c.name.ensures, input_named c.args.chosen)

pub loop-row-preserved : goal.loop-row-preserved
loop-row-preserved c = grind (arith, common_steps, c.name.ensures, input_named c.args.chosen)
