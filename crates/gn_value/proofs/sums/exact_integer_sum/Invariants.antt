use Rattle.std.proofs.Common.{◌≡◌, ◌*◌, ◌^◌, take, pos, neg_ℤ, ◌≤ℤ◌}
use Rattle.gn_value.specs.Arithmetic.{total_by}
use Rattle.gn_value.proofs.sums.exact_integer_sum.Given as goal

-- the sum so far, which is small enough for one number more
abbrev pub invariant-loop-value : goal.invariant-loop-value
invariant-loop-value l =
    (l.sum ≡ total_by (λ n. n) (take l.value-index l.values)) × (neg_ℤ (pos (2 ^ 31 * l.value-index)) ≤ℤ l.sum) × (l.sum ≤ℤ pos (2 ^ 31 * l.value-index))
