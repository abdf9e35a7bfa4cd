-- Square roots of whole numbers, rounded down.
use Rattle.std.specs.Prelude.{ℕ, zero, suc, ◌+◌, ◌*◌, ◌^◌, ◌≤◌, ◌<◌, Bool, nat_le, if◌then◌else◌}

-- r is the greatest number whose square is at most n
pub record IsRoot (n r : ℕ) : Type 0 where
  pub square_fits : r * r ≤ n
  pub next_does_not : n < (r + 1) * (r + 1)

-- the greatest number from base on and below base + 2 ^ bits that passes a test, where what passes
-- is all up to some number; base where no more pass
unfoldable pub greatest : ℕ → (ℕ → Bool) → ℕ → ℕ
greatest zero passes base = base
greatest (suc bits) passes base = greatest bits passes (if passes (base + 2 ^ bits) then base + 2 ^ bits else base)

-- the square root of a number below 2 ^ 128
unfoldable pub root : ℕ → ℕ
root n = greatest 64 (λ r. nat_le (r * r) n) 0
