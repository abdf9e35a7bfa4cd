use Rattle.std.proofs.Common.{arith}
use Rattle.gn_nearest.proofs.Ranks.{with_here, with_before}
use Rattle.gn_nearest.proofs.bounds.Bounds.with.Goals as goal

pub returns-clause-here : goal.returns-clause-here
returns-clause-here c = with_here c.args.self c.args.entry c.min.result c.max.result c.min-2.result c.min.ensures c.max.ensures (omega (arith, c.min-2.ensures))

pub returns-clause-before : goal.returns-clause-before
returns-clause-before c = λ e h. with_before c.args.self c.args.entry e c.min.result c.max.result c.min-2.result c.min.ensures c.max.ensures (omega (arith, c.min-2.ensures)) h
