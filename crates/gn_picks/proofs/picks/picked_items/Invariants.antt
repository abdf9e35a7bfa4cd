use Rattle.std.proofs.Common.{◌≡◌, map, take}
use Rattle.std.specs.Prelude.{slice_index_or}
use Rattle.gn_picks.proofs.picks.picked_items.Given as goal

-- the items of the first numbers
abbrev pub invariant-loop-number : goal.invariant-loop-number
invariant-loop-number g l = record {
  picked : l.picked.items ≡ map (λ k. slice_index_or l.items k l.other) (take l.number-index l.numbers);
}
