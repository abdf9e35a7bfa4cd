-- The edges of vertices in a row, as pairs of numbers.
use Rattle.std.specs.Prelude.{ℕ, ◌+◌, ◌-◌, List, map}
use Rattle.std.specs.List.{range_with_len}

abbrev pub link : ℕ → ℕ × ℕ
link k = (k, k + 1)

abbrev pub links : ℕ → List (ℕ × ℕ)
links count = map link (range_with_len 0 (count - 1))
