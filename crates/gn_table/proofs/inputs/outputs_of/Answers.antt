use Rattle.std.proofs.Common.{arith}
use Rattle.gn_table.proofs.inputs.outputs_of.Goals as goal

pub invariant_of-result : goal.invariant_of-result
invariant_of-result c = omega (arith, c.output_rows.type_inv)
