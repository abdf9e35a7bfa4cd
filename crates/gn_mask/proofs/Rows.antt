-- The definitions at small masks.
use Rattle.std.proofs.Common.{◌≡◌, ℕ, zero, suc, ◌+◌, ◌<◌, ◌≤◌, ◌∷◌, [], length, List, get_or, true, false, refl, arith}
use Rattle.std.specs.List.{All}
use Rattle.gn_mask.specs.Numbers.{numbers, is_among, numbers_of, both, without, IsCut}
use Rattle.gn_mask.specs.Segments.{elements, rest}

-- three of four truths are true
truths : numbers_of (true ∷ false ∷ true ∷ true ∷ []) ≡ 0 ∷ 2 ∷ 3 ∷ []
truths = refl

no_truth : numbers_of [] ≡ []
no_truth = refl

all_of_three : numbers 0 3 ≡ 0 ∷ 1 ∷ 2 ∷ []
all_of_three = refl

is_there : is_among (0 ∷ 2 ∷ 3 ∷ []) 2 ≡ true
is_there = refl

is_not_there : is_among (0 ∷ 2 ∷ 3 ∷ []) 1 ≡ false
is_not_there = refl

with_three : both (0 ∷ 2 ∷ 3 ∷ []) (0 ∷ 1 ∷ 2 ∷ []) ≡ 0 ∷ 2 ∷ []
with_three = refl

rest_of_four : without (0 ∷ 1 ∷ 2 ∷ 3 ∷ []) (0 ∷ 2 ∷ 3 ∷ []) ≡ 1 ∷ []
rest_of_four = refl

-- the segments from 0 up to 1 and from 2 up to 4
two_segments : elements (record { start = 0; end = 1 } ∷ record { start = 2; end = 4 } ∷ []) ≡ 0 ∷ 2 ∷ 3 ∷ []
two_segments = refl

-- from 3 on, in the second of them
left_of_two : rest (record { start = 0; end = 1 } ∷ record { start = 2; end = 4 } ∷ []) 1 3 ≡ 3 ∷ []
left_of_two = refl

-- three numbers in parts of two
abbrev two_parts : List (List ℕ)
two_parts = (0 ∷ 2 ∷ []) ∷ (3 ∷ []) ∷ []

cut_in_two : IsCut 2 (0 ∷ 2 ∷ 3 ∷ []) two_parts
cut_in_two = record { follow = refl; full = full; bounded = bounded }
  where
    full : (k : ℕ) → k + 1 < 2 → length (get_or two_parts k []) ≡ 2
    full zero h = refl
    full (suc k) h = absurd (omega arith)

    bounded : All (λ part. (0 < length part) × (length part ≤ 2)) two_parts
    bounded zero d h = (omega arith, omega arith)
    bounded (suc zero) d h = (omega arith, omega arith)
    bounded (suc (suc k)) d h = absurd (omega arith)
