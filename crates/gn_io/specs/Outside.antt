-- What is known of the files and the output that the program is given from outside.
use Rattle.std.specs.Prelude.{ℕ, ◌+◌, ◌-◌, ◌^◌, ◌≤◌, min, List, [], ◌∷◌, ◌++◌, Option, Some, None}

-- the bytes under each name, if there is a file of that name
abbrev pub Files : Type 0
Files = List ℕ → Option (List ℕ)

-- names, in the order in which they came
abbrev pub Names : Type 0
Names = List (List ℕ)

-- a count of 64 bits, which stops at its last value
abbrev pub stopped : ℕ → ℕ
stopped count = min count (2 ^ 64 - 1)

-- a count is at least what one more makes of it
abbrev pub Rose : ℕ → ℕ → Type 0
Rose before now = stopped (before + 1) ≤ now

-- the names, if they are shown, with one more at the end
abbrev pub with_name : Option Names → List ℕ → Option Names
with_name None name = None
with_name (Some names) name = Some (names ++ name ∷ [])

-- the bytes, if they are shown, with more at the end
abbrev pub with_bytes : Option (List ℕ) → List ℕ → Option (List ℕ)
with_bytes None bytes = None
with_bytes (Some held) bytes = Some (held ++ bytes)
