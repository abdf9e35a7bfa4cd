-- How many elements a geometry may have on a place.
use Rattle.std.specs.Prelude.{ℕ, ◌-◌, ◌^◌, min, nat_lt, List, [], ◌∷◌, Option, None, Some, if◌then◌else◌}
use Rattle.std.specs.List.{sum_by}
use Rattle.gn_value.specs.declared.value.Place.{Place}
use Rattle.gn_value.specs.declared.value.Place.TheVariants.{Point, Edge, Face, Corner, Cloud, Instance}
use Rattle.gn_plain.specs.Geometry.{Geometry, count}

abbrev pub most_elements : ℕ
most_elements = 2 ^ 23

-- the places in their order
abbrev pub all_places : List Place
all_places = Point ∷ Edge ∷ Face ∷ Corner ∷ Cloud ∷ Instance ∷ []

-- the first of some places with more elements than there may be, and their number, which stops at 2^64 - 1
abbrev pub first_over : (Place → ℕ) → List Place → Option (Place × ℕ)
first_over counts [] = None
first_over counts (p ∷ ps) = if nat_lt most_elements (counts p) then Some (p, min (counts p) (2 ^ 64 - 1)) else first_over counts ps

-- the first place on which a geometry has too many elements
abbrev pub too_many : Geometry → Option (Place × ℕ)
too_many g = first_over (count g) all_places

-- how many elements geometries have together on a place
abbrev pub count_together : List Geometry → Place → ℕ
count_together gs p = sum_by (λ g. count g p) gs
