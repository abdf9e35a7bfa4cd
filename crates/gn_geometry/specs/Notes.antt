-- The copies that a meter notes where some of a list of arrays are copied.
use Rattle.std.specs.Prelude.{◌≡◌, ℕ, Bool, List, [], ◌∷◌, take}
use Rattle.gn_shared.specs.Count.{Count}
use Rattle.gn_attr.specs.Handles.{noted_if}

-- one copy is noted for each array that is copied
abbrev pub noted_each : List Bool → Count → Count
noted_each [] count = count
noted_each (is_copied ∷ more) count = noted_each more (noted_if is_copied count)

-- copies are noted for the first arrays up to some number
abbrev pub NotesFirst : List Bool → Count → Count → Type 0
NotesFirst copied count count' = (n : ℕ) × (count' ≡ noted_each (take n copied) count)
