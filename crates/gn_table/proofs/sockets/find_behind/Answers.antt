use Rattle.std.proofs.Common.{arith}
use Rattle.gn_table.proofs.sockets.find_behind.Goals as goal

pub overflow_add-result : goal.overflow_add-result
overflow_add-result c = omega (arith, c.in-Some.ensures.small, c.requires)
