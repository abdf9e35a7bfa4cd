-- Which whole number a significand stands for.
use Rattle.std.specs.Prelude.{◌≡◌, ℕ, ◌/◌, ◌^◌, ◌<◌, ◌≤◌}
use Rattle.gn_decimal.specs.declared.significand.Significand.{Significand}
use Rattle.gn_decimal.specs.declared.significand.Significand.TheVariants.{Short, Long}

-- The digits of n that are kept: all of them, or at least 29 of them, the last ones being dropped.
abbrev pub Keeps : Significand → ℕ → Type 0
Keeps (Short number) n = number ≡ n
Keeps (Long leading dropped) n = (n / 10 ^ dropped ≡ leading) × (leading < 10 ^ 29) × (0 < dropped → 10 ^ 28 ≤ leading)

-- how many digits are dropped
abbrev pub dropped_of : Significand → ℕ
dropped_of (Short number) = 0
dropped_of (Long leading dropped) = dropped
