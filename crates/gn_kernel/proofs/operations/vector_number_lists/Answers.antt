use Rattle.std.proofs.Common.{rules}
use Rattle.gn_value.specs.Rows.{row, vector_row}
use Rattle.gn_kernel.proofs.operations.vector_number_lists.Goals as goal

pub returns-in-Distance : goal.returns-in-Distance
unfolding row vector_row
returns-in-Distance c = λ k h. let p = c.each_two-in-Distance.ensures k h in search rules
