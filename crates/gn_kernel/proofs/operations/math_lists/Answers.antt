use Rattle.std.proofs.Common.{rules}
use Rattle.gn_value.specs.Rows.{math_row, row}
use Rattle.gn_kernel.proofs.operations.math_lists.Goals as goal

pub returns-in-LessThan : goal.returns-in-LessThan
unfolding row math_row
returns-in-LessThan c = λ k h. let p = c.each_two-in-LessThan.ensures k h in search rules

pub returns-in-GreaterThan : goal.returns-in-GreaterThan
unfolding row math_row
returns-in-GreaterThan c = λ k h. let p = c.each_two-in-GreaterThan.ensures k h in search rules
