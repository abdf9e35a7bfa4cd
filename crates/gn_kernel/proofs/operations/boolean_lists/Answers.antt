use Rattle.std.proofs.Common.{rules}
use Rattle.gn_value.specs.Rows.{boolean_row, row}
use Rattle.gn_kernel.proofs.operations.boolean_lists.Goals as goal

pub returns-in-And : goal.returns-in-And
unfolding row boolean_row
returns-in-And c = λ k h. let p = c.each_two.ensures k h in search rules

pub returns-in-Or : goal.returns-in-Or
unfolding row boolean_row
returns-in-Or c = λ k h. let p = c.each_two-in-Or.ensures k h in search rules

pub returns-in-Xor : goal.returns-in-Xor
unfolding row boolean_row
returns-in-Xor c = λ k h. let p = c.each_two-in-Xor.ensures k h in search rules

pub returns-in-Nand : goal.returns-in-Nand
unfolding row boolean_row
returns-in-Nand c = λ k h. let p = c.each_two-in-Nand.ensures k h in search rules

pub returns-in-Nor : goal.returns-in-Nor
unfolding row boolean_row
returns-in-Nor c = λ k h. let p = c.each_two-in-Nor.ensures k h in search rules

pub returns-in-Not : goal.returns-in-Not
unfolding row boolean_row
returns-in-Not c = λ k h. let p = c.each.ensures k h in search rules
