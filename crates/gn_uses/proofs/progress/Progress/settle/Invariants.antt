use Rattle.std.proofs.Common.{◌≡◌, ◌-◌}
use Rattle.gn_uses.specs.Progress.{CanGoOn, AreRightSoFar, GoesOn}
use Rattle.gn_uses.proofs.progress.Progress.settle.Given as goal

abbrev pub invariant-loop-self : goal.invariant-loop-self
invariant-loop-self l = record {
  can : CanGoOn l.parts l.self;
  right : AreRightSoFar l.parts l.self;
  sizes : l.self.wanted.sizes ≡ l.fn.self.wanted.sizes;
  used : GoesOn l.fn.self.used.items l.self.used.items;
  line : GoesOn l.fn.self.line.items l.self.line.items;
}

abbrev pub decreases-loop-self : goal.decreases-loop-self
decreases-loop-self l = l.self.wanted.total - l.self.followed
