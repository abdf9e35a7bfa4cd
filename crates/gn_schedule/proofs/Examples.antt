-- What operands, readers, slots and places that are asked for are, by computation.
use Rattle.std.proofs.Common.{◌≡◌, true, false, [], ◌∷◌, Some, None, ◌==◌, if◌then◌else◌, refl, arith}
use Rattle.gn_value.specs.declared.value.ValueKind.TheVariants.{Int}
use Rattle.gn_value.specs.declared.value.Place.TheVariants.{Point, Face}
use Rattle.gn_value.specs.declared.op.Op.TheVariants.{Clamp}
use Rattle.gn_plain.specs.Fields.{accumulate, at_index, on_domain, total}
use Rattle.gn_field.specs.Steps.{of_apply, of_elsewhere, of_sampled}
use Rattle.gn_schedule.specs.declared.places.Places.{Places}
use Rattle.gn_schedule.specs.Plans.{operands, AllReadBy, Hold}
use Rattle.gn_schedule.specs.Asked.{asked, Asks}

operands_of_an_operation : operands (of_apply Clamp (2 ∷ 0 ∷ 1 ∷ [])) ≡ 2 ∷ 0 ∷ 1 ∷ []
operands_of_an_operation = refl

-- what is read elsewhere is no operand
operands_elsewhere : operands (of_elsewhere (at_index Int Point) (0 ∷ 1 ∷ [])) ≡ []
operands_elsewhere = refl

operand_of_a_sample : operands (of_sampled [] 4) ≡ 4 ∷ []
operand_of_a_sample = refl

-- the steps 0 and 2 are read by the step before 3, or by a later one
read : AllReadBy 3 (3 ∷ 0 ∷ 7 ∷ []) (0 ∷ 2 ∷ [])
read = (omega arith, (omega arith, tt))

-- slot 1 has the values of step 5
slots : Hold (λ s. if s == 1 then Some 5 else None) (1 ∷ []) (5 ∷ [])
slots = (refl, tt)

abbrev on_points : Places
on_points = record { point = true; edge = false; face = false; corner = false; cloud = false; instance = false }

abbrev on_faces : Places
on_faces = record { point = false; edge = false; face = true; corner = false; cloud = false; instance = false }

-- a step is asked for on the places that the table has for it, and one behind the table on none
asked_on_faces : asked (on_points ∷ on_faces ∷ []) Face 1 ≡ true
asked_on_faces = refl

not_on_points : asked (on_points ∷ on_faces ∷ []) Point 1 ≡ false
not_on_points = refl

not_asked : asked (on_points ∷ on_faces ∷ []) Face 2 ≡ false
not_asked = refl

-- on faces, an operation reads its arguments there
operation_asks : Asks (on_points ∷ on_faces ∷ []) Face (of_apply Clamp (1 ∷ 1 ∷ 1 ∷ []))
operation_asks = (refl, (refl, (refl, tt)))

-- a sum over points reads both there
sum_asks : Asks (on_points ∷ on_points ∷ []) Face (of_elsewhere (accumulate Int Point total) (0 ∷ 1 ∷ []))
sum_asks = (refl, (refl, tt))

-- a value on points at an index reads the value there, and the index on the faces
index_asks : Asks (on_points ∷ on_faces ∷ []) Face (of_elsewhere (at_index Int Point) (0 ∷ 1 ∷ []))
index_asks = (refl, (refl, tt))

-- a value on points reads it there
domain_asks : Asks (on_points ∷ on_faces ∷ []) Face (of_elsewhere (on_domain Int Point) (0 ∷ []))
domain_asks = (refl, tt)
