use Rattle.std.proofs.Common.{rules}
use Rattle.gn_value.specs.Rows.{compare_row}
use Rattle.gn_kernel.proofs.operations.compare_lists.Goals as goal

pub returns-in-Less : goal.returns-in-Less
unfolding compare_row
returns-in-Less g c = λ k h. let p = c.each_two.ensures k h in search rules

pub returns-in-LessEqual : goal.returns-in-LessEqual
unfolding compare_row
returns-in-LessEqual g c = λ k h. let p = c.each_two-in-LessEqual.ensures k h in search rules

pub returns-in-Greater : goal.returns-in-Greater
unfolding compare_row
returns-in-Greater g c = λ k h. let p = c.each_two-in-Greater.ensures k h in search rules

pub returns-in-GreaterEqual : goal.returns-in-GreaterEqual
unfolding compare_row
returns-in-GreaterEqual g c = λ k h. let p = c.each_two-in-GreaterEqual.ensures k h in search rules

pub returns-in-Equal : goal.returns-in-Equal
unfolding compare_row
returns-in-Equal g c = λ k h. let p = c.each_two-in-Equal.ensures k h in search rules

pub returns-in-NotEqual : goal.returns-in-NotEqual
unfolding compare_row
returns-in-NotEqual g c = λ k h. let p = c.each_two-in-NotEqual.ensures k h in search rules
