-- What becomes of a handle on an array that is shared or written to, and what a meter notes of it.
use Rattle.std.specs.Prelude.{◌≡◌, ◌≢◌, ◌⊎◌, ℕ, ◌==◌, ◌^◌, Bool, if◌then◌else◌}
use Rattle.gn_shared.specs.Arrays.{ArrayView}
use Rattle.gn_shared.specs.Count.{Count, with_copy}

abbrev pub all_parts : ℕ
all_parts = 2 ^ 62

module _ {T : Type 0} where
  -- a handle with all parts is the only one of its block, and one with a single part has none to give
  abbrev pub IsSole : ArrayView T → Type 0
  IsSole a = a.parts ≡ all_parts

  abbrev pub has_one_part : ArrayView T → Bool
  has_one_part a = a.parts == 1

  -- the same items in the same block
  abbrev pub Keeps : ArrayView T → ArrayView T → Type 0
  Keeps before after = (after.items ≡ before.items) × (after.block ≡ before.block)

  -- the same items, in the same block where the handle had more than one part
  abbrev pub IsTwin : ArrayView T → ArrayView T → Type 0
  IsTwin a twin = (twin.items ≡ a.items) × (a.parts ≢ 1 → twin.block ≡ a.block)

  -- the handle keeps its block and nothing is noted, or it was not sole and one copy is noted
  abbrev pub Owns : ArrayView T → ArrayView T → Count → Count → Type 0
  Owns before after count count' =
      ((after.block ≡ before.block) × (count' ≡ count)) ⊎ ((before.parts ≢ all_parts) × (count' ≡ with_copy count))

-- one more copy, if one was made
abbrev pub noted_if : Bool → Count → Count
noted_if is_copied count = if is_copied then with_copy count else count
