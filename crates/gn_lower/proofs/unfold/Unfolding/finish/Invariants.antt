use Rattle.std.proofs.Common.{◌≡◌}
use Rattle.gn_lower.specs.Unfolding.{Stands, steps_in}
use Rattle.gn_lower.proofs.unfold.Unfolding.finish.Given as goal

abbrev pub invariant-steps : goal.invariant-steps
invariant-steps l = (l.self.tree ≡ l.initial.self.tree) × Stands l.self

abbrev pub decreases-steps : goal.decreases-steps
decreases-steps l = steps_in l.self
