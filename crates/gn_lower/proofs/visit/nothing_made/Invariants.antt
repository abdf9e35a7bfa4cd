use Rattle.std.proofs.Common.{◌≡◌, ℕ, length, None}
use Rattle.gn_lower.specs.Carried.{output_in}
use Rattle.gn_lower.proofs.visit.nothing_made.Given as goal

abbrev pub invariant-each : goal.invariant-each
invariant-each l = (length l.made.items ≡ l.counter) × ((node socket : ℕ) → output_in l.made.items node socket ≡ None)
