-- The places that were gone over have few elements.
use Rattle.std.proofs.Common.{◌≡◌, ℕ, ◌+◌, ◌-◌, ◌^◌, ◌<◌, false, nat_lt, List, length, drop, get_or, min, Some, ◌≤◌, ap, arith, ◌∙◌, if◌then◌else◌}
use Rattle.std.proofs.lemmas.Bool.{le-ltb}
use Rattle.std.proofs.lemmas.List.{drop_more}
use Rattle.gn_value.specs.declared.value.Place.{Place}
use Rattle.gn_joins.specs.Limits.{first_over, most_elements}

pub few_here : (counts : Place → ℕ) (ps : List Place) (i : ℕ) (d : Place) → i < length ps → nat_lt most_elements (counts (get_or ps i d)) ≡ false
    → first_over counts (drop i ps) ≡ first_over counts (drop (i + 1) ps)
few_here counts ps i d below few =
    let p = get_or ps i d in
    ap (first_over counts) (drop_more ps i d below)
    ∙ ap (λ b. if b then Some (p, min (counts p) (2 ^ 64 - 1)) else first_over counts (drop (i + 1) ps)) few

few : (n r : ℕ) → r ≡ min n (2 ^ 64 - 1) → r ≤ most_elements → n ≤ most_elements
few n r is below = omega (arith, is, below)

-- a number that stops at a bound is as large as it shows where it is below
pub not_above : (n r : ℕ) → r ≡ min n (2 ^ 64 - 1) → r ≤ most_elements → nat_lt most_elements n ≡ false
not_above n r is below = le-ltb most_elements n (few n r is below)
