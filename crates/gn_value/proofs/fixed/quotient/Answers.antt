use Rattle.std.proofs.Common.{arith}
use Rattle.std.proofs.lemmas.Grind.{common_steps}
use Rattle.gn_value.proofs.Division.{quotient_is}
use Rattle.gn_value.proofs.fixed.quotient.Goals as goal

pub returns : goal.returns
returns c = grind (arith, common_steps, quotient_is c.args.a c.whole_and_rest-whole.result.0 c.args.b c.whole_and_rest-whole.result.1 c.fraction_of.result c.requires)
