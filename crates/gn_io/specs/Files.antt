-- What fetching a name returns in one run, for a shelf that shows its files and the names that it missed.
use Rattle.std.specs.Prelude.{ℕ, nat_le, Bool, List, length, drop, bytes_eq, Option, Some, None, if◌then◌else◌}
use Rattle.std.specs.List.{list_any}
use Rattle.gn_io.specs.Outside.{Files, Names}

-- what a name gives
pub data FileAnswer : Type 0 where
  whole : (bytes : List ℕ) → FileAnswer
  absent : FileAnswer
  too_long : (size : ℕ) → FileAnswer

-- the names that a later list has beyond an earlier one
abbrev pub gained : Names → Names → Names
gained before now = drop (length before) now

-- the name is one of these
abbrev pub is_among : List ℕ → Names → Bool
is_among name names = list_any (bytes_eq name) names

-- a file as it is given: whole within the limit, and otherwise its length
abbrev pub file_within : ℕ → Option (List ℕ) → FileAnswer
file_within limit None = absent
file_within limit (Some bytes) = if nat_le (length bytes) limit then whole bytes else too_long (length bytes)

-- a name that was missed is absent, and every other gives what is held
abbrev pub file_answer : Files → Names → ℕ → List ℕ → FileAnswer
file_answer files missed limit name = if is_among name missed then absent else file_within limit (files name)
