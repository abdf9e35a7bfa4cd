use Rattle.std.proofs.Common.{◌≡◌, ◌*◌, ◌^◌, take, pos, neg_ℤ, ◌≤ℤ◌}
use Rattle.gn_value.specs.Arithmetic.{total_by}
use Rattle.gn_value.specs.Values.{raw}
use Rattle.gn_value.proofs.sums.exact_sum.Given as goal

-- the sum so far, which is small enough for one number more
abbrev pub invariant-loop-value : goal.invariant-loop-value
invariant-loop-value l =
    (l.sum ≡ total_by raw (take l.value-index l.values)) × (neg_ℤ (pos (2 ^ 63 * l.value-index)) ≤ℤ l.sum) × (l.sum ≤ℤ pos (2 ^ 63 * l.value-index))
