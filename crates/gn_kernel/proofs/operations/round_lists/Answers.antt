use Rattle.std.proofs.Common.{rules}
use Rattle.gn_value.specs.Rows.{round_row, row}
use Rattle.gn_kernel.proofs.operations.round_lists.Goals as goal

pub returns-in-Round : goal.returns-in-Round
unfolding row round_row
returns-in-Round c = λ k h. let p = c.each.ensures k h in search rules

pub returns-in-Floor : goal.returns-in-Floor
unfolding row round_row
returns-in-Floor c = λ k h. let p = c.each-in-Floor.ensures k h in search rules

pub returns-in-Ceil : goal.returns-in-Ceil
unfolding row round_row
returns-in-Ceil c = λ k h. let p = c.each-in-Ceil.ensures k h in search rules

pub returns-in-Truncate : goal.returns-in-Truncate
unfolding row round_row
returns-in-Truncate c = λ k h. let p = c.each-in-Truncate.ensures k h in search rules
