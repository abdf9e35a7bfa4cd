-- Sums over groups, by computation.
use Rattle.std.proofs.Common.{◌≡◌, ℕ, ℤ, pos, negsuc, List, [], ◌∷◌, map, refl}
use Rattle.gn_plain.specs.Fields.{Part, leading, trailing, total}
use Rattle.gn_elsewhere.specs.Sums.{members, sum_of_group, total_at}

-- the numbers 5, -2, 7 and 1, of which the third is of a group of its own
abbrev numbers : List ℤ
numbers = pos 5 ∷ negsuc 1 ∷ pos 7 ∷ pos 1 ∷ []

abbrev groups : List ℕ
groups = 0 ∷ 0 ∷ 1 ∷ 0 ∷ []

abbrev sums : Part → List ℤ
sums part = map (total_at part numbers groups) (0 ∷ 1 ∷ 2 ∷ 3 ∷ [])

members_of_a_group : members leading groups 4 1 ∷ members trailing groups 4 3 ∷ members total groups 4 2 ∷ [] ≡ (0 ∷ 1 ∷ []) ∷ (0 ∷ 1 ∷ []) ∷ (2 ∷ []) ∷ []
members_of_a_group = refl

sums_up_to_an_element : sums leading ≡ pos 5 ∷ pos 3 ∷ pos 7 ∷ pos 4 ∷ []
sums_up_to_an_element = refl

sums_before_an_element : sums trailing ≡ pos 0 ∷ pos 5 ∷ pos 0 ∷ pos 3 ∷ []
sums_before_an_element = refl

sums_of_groups : sums total ≡ pos 4 ∷ pos 4 ∷ pos 7 ∷ pos 4 ∷ []
sums_of_groups = refl

sums_of_the_first_two : sum_of_group numbers groups 2 0 ∷ sum_of_group numbers groups 2 1 ∷ [] ≡ pos 3 ∷ pos 0 ∷ []
sums_of_the_first_two = refl
