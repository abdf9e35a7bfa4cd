-- A number as a row of digits of a given length.
use Rattle.std.specs.Prelude.{ℕ, zero, suc, ◌+◌, ◌/◌, ◌%◌, List, [], ◌∷◌, ◌++◌}

-- the last `count` digits of n, with zeros before them where it has fewer
unfoldable pub padded : ℕ → ℕ → List ℕ
padded zero n = []
padded (suc count) n = padded count (n / 10) ++ (48 + n % 10) ∷ []
