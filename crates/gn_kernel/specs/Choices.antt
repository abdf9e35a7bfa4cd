-- What a choice among cases picks.
use Rattle.std.specs.Prelude.{ℕ, ℤ, pos, if◌then◌else◌}
use Rattle.std.specs.Ordering.{int_eq}

-- the value where a choice is the case, and else the old one
unfoldable pub picked : {T : Type 0} → ℕ → ℤ → T → T → T
picked case choice value old = if int_eq choice (pos case) then value else old
