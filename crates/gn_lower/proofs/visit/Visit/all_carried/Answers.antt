use Rattle.gn_lower.proofs.Visiting.{next_carried}
use Rattle.gn_lower.proofs.visit.Visit.all_carried.Goals as goal

pub loop-read-preserved : goal.loop-read-preserved
loop-read-preserved c = next_carried c.args.self.now c.args.reads.now c.loop-read.read-index c.loop-read.all.items c.push.new.self.items _ _ c.loop-read.invariant c.loop-read-test.true c.in_ok-carried.ensures c.in_ok-push.ensures.items
