use Rattle.std.proofs.Common.{◌≡◌, ◌<◌, ℕ, Some}
use Rattle.std.specs.Prelude.{slice_get}
use Rattle.gn_slots.specs.declared.whole.Whole.{Whole}
use Rattle.gn_slots.proofs.lookup.find.Given as goal

-- none of the values so far are those
abbrev pub invariant-loop-whole : goal.invariant-loop-whole
invariant-loop-whole l = (i : ℕ) (w : Whole) → i < l.whole-index → slice_get l.wholes i ≡ Some w → ¬ ((w.step ≡ l.step) × (w.place ≡ l.place))
