-- The digits that a text begins with, one by one.
use Rattle.std.specs.Prelude.{ℕ, ◌+◌, ◌-◌, ◌*◌, ◌^◌, min, [], ◌∷◌, if◌then◌else◌}
use Rattle.std.specs.Char.{is_ascii_digit}
use Rattle.gn_lines.specs.Lines.{Text}

-- a number with further digits behind it, or the greatest of 32 bits where it is more
abbrev pub number_capped : ℕ → Text → ℕ
number_capped n [] = n
number_capped n (b ∷ text) =
    if is_ascii_digit b then number_capped (min (n * 10 + (b - 48)) (2 ^ 32 - 1)) text else n

abbrev pub behind_digits : Text → Text
behind_digits [] = []
behind_digits (b ∷ text) = if is_ascii_digit b then behind_digits text else b ∷ text
