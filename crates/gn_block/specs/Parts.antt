-- How the parts of a block are divided.
use Rattle.std.specs.Prelude.{◌≡◌, ℕ, ◌+◌, ◌<◌, ◌≤◌, ◌^◌, nat_lt, List, sum, count_by}

-- The parts of each handle that the block ever had, 0 where it has gone. With those that came back to the block they are all of `limit`, and each handle that is left has at least one.
abbrev pub AreDivided : ℕ → ℕ → ℕ → List ℕ → Type 0
AreDivided limit users back handles = (sum handles + back ≡ limit) × (count_by (λ p. nat_lt 0 p) handles ≡ users)

-- parts that a handle may have
abbrev pub IsPart : ℕ → ℕ → Type 0
IsPart limit parts = (0 < parts) × (parts ≤ limit) × (limit ≤ 2 ^ 62)
