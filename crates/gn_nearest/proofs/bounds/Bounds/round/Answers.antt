use Rattle.std.proofs.Common.{arith}
use Rattle.gn_nearest.proofs.Ranks.{round_more}
use Rattle.gn_nearest.proofs.bounds.Bounds.round.Goals as goal

pub loop-entry-preserved : goal.loop-entry-preserved
loop-entry-preserved c = round_more c.loop-entry.bounds c.with-bounds.result c.args.entries.now c.loop-entry.entry-index _ (omega arith) c.loop-entry.invariant c.with-bounds.ensures.here c.with-bounds.ensures.before
