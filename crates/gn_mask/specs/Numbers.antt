-- Lists of element numbers, and how masks are made of them.
use Rattle.std.specs.Prelude.{◌≡◌, ℕ, ◌+◌, ◌-◌, ◌<◌, ◌≤◌, Bool, false, not, List, [], length, filter, slice_index_or, flat_map}
use Rattle.std.specs.Prelude.{◌==◌}
use Rattle.std.specs.List.{All, list_any, range_with_len}

-- the numbers from one up to another, which is left out
abbrev pub numbers : ℕ → ℕ → List ℕ
numbers from to = range_with_len from (to - from)

-- whether a number is one of a list
abbrev pub is_among : List ℕ → ℕ → Bool
is_among ns n = list_any (λ m. n == m) ns

-- the numbers of the elements whose truth is true
abbrev pub numbers_of : List Bool → List ℕ
numbers_of truths = filter (λ n. slice_index_or truths n false) (numbers 0 (length truths))

-- the numbers of a list that are in another one too
abbrev pub both : List ℕ → List ℕ → List ℕ
both ns others = filter (is_among others) ns

-- the numbers of a list that are not in another one
abbrev pub without : List ℕ → List ℕ → List ℕ
without ns others = filter (λ n. not (is_among others n)) ns

-- a list is cut into parts of a size, of which the last alone may be smaller
pub record IsCut (size : ℕ) (ns : List ℕ) (parts : List (List ℕ)) : Type 0 where
  pub follow : flat_map (λ part. part) parts ≡ ns
  pub full : (k : ℕ) → k + 1 < length parts → length (slice_index_or parts k []) ≡ size
  pub bounded : All (λ part. (0 < length part) × (length part ≤ size)) parts
