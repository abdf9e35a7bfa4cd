use Rattle.std.proofs.Common.{refl}
use Rattle.gn_lower.specs.Carried.{came_of}
use Rattle.gn_lower.proofs.Linking.{next_link}
use Rattle.gn_lower.proofs.unfold.Unfolding.links.Goals as goal

pub loop-read-preserved : goal.loop-read-preserved
loop-read-preserved c =
    next_link c.args.self.now c.loop-read.self _ c.args.reads.now c.loop-read.read-index c.loop-read.links.items c.push.new.self.items _ (came_of c.in_ok-carried.carried) c.in_ok-link.field-0
    c.loop-read.invariant c.requires c.loop-read-test.true c.in_ok-carried.ensures c.in_ok-link.ensures refl c.in_ok-push.ensures.items
