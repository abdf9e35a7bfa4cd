-- Segments that rise, and the numbers that they have.
use Rattle.std.specs.Prelude.{ℕ, suc, ◌-◌, ◌<◌, ◌≤◌, ◌^◌, ◌&&◌, Bool, List, [], ◌∷◌, ◌++◌, drop, nat_le, nat_lt}
use Rattle.std.specs.List.{list_any, flat_map}
use Rattle.gn_mask.specs.declared.segment.Segment.{Segment}
use Rattle.gn_mask.specs.Numbers.{numbers}

-- the numbers of segments, in order
abbrev pub elements : List Segment → List ℕ
elements segments = flat_map (λ s. numbers s.start s.end) segments

-- whether a number is in a segment
abbrev pub is_inside : ℕ → Segment → Bool
is_inside n s = nat_le s.start n && nat_lt n s.end

-- whether a number is in one of the segments
abbrev pub covers : List Segment → ℕ → Bool
covers segments n = list_any (is_inside n) segments

-- the segments have numbers from one on, none touches the next, and each ends below another number
abbrev pub Rises : ℕ → ℕ → List Segment → Type 0
Rises from below [] = from ≤ below
Rises from below (s ∷ segments) = (from ≤ s.start) × (s.start < s.end) × Rises (suc s.end) below segments

-- where the first segment starts, or the last number of 32 bits for no segments
abbrev pub start_of : List Segment → ℕ
start_of [] = 2 ^ 32 - 1
start_of (s ∷ segments) = s.start

-- the numbers of segments, those of the first only from a number on
abbrev pub elements_from : ℕ → List Segment → List ℕ
elements_from from [] = []
elements_from from (s ∷ segments) = numbers from s.end ++ elements segments

-- what is left of segments from the one at an index on, and there from a number on
abbrev pub rest : List Segment → ℕ → ℕ → List ℕ
rest segments index from = elements_from from (drop index segments)

-- the number is in the first segment or at its end
abbrev pub IsIn : ℕ → List Segment → Type 0
IsIn from [] = Unit {0}
IsIn from (s ∷ segments) = (s.start ≤ from) × (from ≤ s.end)

-- the number is in the segment at the index or at its end, where there is one
abbrev pub IsAt : List Segment → ℕ → ℕ → Type 0
IsAt segments index from = IsIn from (drop index segments)
