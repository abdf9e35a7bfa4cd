use Rattle.std.proofs.Common.{rules}
use Rattle.gn_value.specs.Rows.{row}
use Rattle.gn_kernel.proofs.whole.many_numbers.Goals as goal

pub returns-in-MapRange : goal.returns-in-MapRange
unfolding row
returns-in-MapRange c = λ k h. let p = c.each_five.ensures k h in search rules
