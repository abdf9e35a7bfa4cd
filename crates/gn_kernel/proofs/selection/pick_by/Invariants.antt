use Rattle.std.proofs.Common.{◌≡◌, ◌≤◌, ◌<◌, ℕ, slice_index_or}
use Rattle.gn_value.specs.Rows.{choice_of}
use Rattle.gn_kernel.specs.Choices.{picked}
use Rattle.gn_kernel.proofs.selection.pick_by.Given as goal

-- what was chosen at each position so far, and what still stands at the others
abbrev pub invariant-loop-k : goal.invariant-loop-k
invariant-loop-k g l =
    ((j : ℕ) (v : _) (r : _) → j < l.k → slice_index_or l.into j r
    ≡ picked l.case (choice_of (g.C.OfKind.as_value (slice_index_or l.choices j v))) (slice_index_or l.values j r) (slice_index_or l.fn.into j r))
    × ((j : ℕ) (r : _) → l.k ≤ j → slice_index_or l.into j r ≡ slice_index_or l.fn.into j r)
