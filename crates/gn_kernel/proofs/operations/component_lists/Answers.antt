use Rattle.std.proofs.Common.{rules}
use Rattle.gn_value.specs.Rows.{row}
use Rattle.gn_kernel.proofs.operations.component_lists.Goals as goal

pub returns-in-X : goal.returns-in-X
unfolding row
returns-in-X c = λ k h. let p = c.each.ensures k h in search rules

pub returns-in-Y : goal.returns-in-Y
unfolding row
returns-in-Y c = λ k h. let p = c.each-in-Y.ensures k h in search rules

pub returns-in-Z : goal.returns-in-Z
unfolding row
returns-in-Z c = λ k h. let p = c.each-in-Z.ensures k h in search rules
