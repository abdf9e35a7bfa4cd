use Rattle.std.proofs.Common.{◌-◌, ◌^◌}
use Rattle.gn_mask.specs.Segments.{elements}
use Rattle.gn_mask.proofs.Rising.{increases}
use Rattle.gn_mask.proofs.Segments.{rising, all_below}
use Rattle.gn_mask.proofs.mask.Mask.len.Goals as goal

pub returns-clause-rising : goal.returns-clause-rising
returns-clause-rising c =
    let ss = c.self.inside.segments.items in
    rw (← c.self.view_is) (increases 0 (2 ^ 32) (elements ss) (rising 0 (2 ^ 32) ss c.self.invariant))

pub returns-clause-below : goal.returns-clause-below
returns-clause-below c = rw (← c.self.view_is) (all_below 0 (2 ^ 32 - 1) c.self.inside.segments.items c.self.invariant)
