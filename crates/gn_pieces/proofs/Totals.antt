-- How many elements the first geometries of a list have together.
use Rattle.std.proofs.Common.{◌≡◌, ℕ, zero, suc, ◌+◌, ◌-◌, ◌<◌, ◌≤◌, ◌^◌, min, Bool, true, false, cond, nat_lt, List, [], ◌∷◌, ◌++◌, length, map, take, get_or, Option, Some, None, refl, sym, ap, ◌∙◌, arith}
use Rattle.std.proofs.lemmas.Bool.Decides.{nat_tests}
use Rattle.std.proofs.lemmas.List.{take_more}
use Rattle.std.proofs.lemmas.List.Sums.{sum_by_push, sum_by-cons}
use Rattle.gn_value.specs.declared.value.Place.{Place}
use Rattle.gn_value.specs.declared.value.Place.TheVariants as place
use Rattle.gn_plain.specs.Geometry.{Geometry, count}
use Rattle.gn_joins.specs.Limits.{count_together, first_over, most_elements}
use Rattle.gn_joins.proofs.Moved.{map_both}
use Rattle.gn_pieces.specs.Lists.{mesh_places}

module _ {X : Type 0} (f : X → Geometry) where
  -- one more at the end of a list that is mapped
  pub map_take_more : (xs : List X) (i : ℕ) (x : X) → i < length xs → x ≡ get_or xs i x → map f (take (i + 1) xs) ≡ map f (take i xs) ++ f x ∷ []
  map_take_more xs i x below at =
      ap (map f) (take_more xs i x below) ∙ (map_both f (take i xs) (get_or xs i x ∷ []) ∙ ap (λ (y : X). map f (take i xs) ++ f y ∷ []) (sym at))

  pub one_more_counted : (p : Place) (xs : List X) (i : ℕ) (x : X) → i < length xs → x ≡ get_or xs i x
      → count_together (map f (take (i + 1) xs)) p ≡ count_together (map f (take i xs)) p + count (f x) p
  one_more_counted p xs i x below at = ap (λ gs. count_together gs p) (map_take_more xs i x below at) ∙ sum_by_push (λ g. count g p) (map f (take i xs)) (f x)

  -- the first have no more than all
  pub first_counted : (p : Place) (n : ℕ) (xs : List X) → count_together (map f (take n xs)) p ≤ count_together (map f xs) p
  first_counted p zero xs = omega arith
  first_counted p (suc n) [] = omega arith
  first_counted p (suc n) (x ∷ xs) =
      omega (arith, first_counted p n xs, sum_by-cons (λ g. count g p) (f x) (map f (take n xs)), sum_by-cons (λ g. count g p) (f x) (map f xs))

not_over : (n : ℕ) → nat_lt most_elements n ≡ false → n ≤ most_elements
not_over n h = grind (arith, nat_tests)

none_by : {A : Type 0} (b : Bool) (x : A) (rest : Option A) → cond b (Some x) rest ≡ None → (b ≡ false) × (rest ≡ None)
none_by true x rest h = cc
none_by false x rest h = (refl, h)

over_here : (counts : Place → ℕ) (p : Place) (ps : List Place) → first_over counts (p ∷ ps) ≡ None → (counts p ≤ most_elements) × (first_over counts ps ≡ None)
over_here counts p ps h =
    let two = none_by (nat_lt most_elements (counts p)) (p, min (counts p) (2 ^ 64 - 1)) (first_over counts ps) h in
    (not_over (counts p) two.0, two.1)

-- where no place of a mesh has too many elements, each has few
pub few_on : (counts : Place → ℕ) → first_over counts mesh_places ≡ None → (counts place.Point ≤ most_elements) × (counts place.Edge ≤ most_elements) × (counts place.Face ≤ most_elements) × (counts place.Corner ≤ most_elements)
few_on counts h =
    let point = over_here counts place.Point (place.Edge ∷ place.Face ∷ place.Corner ∷ []) h in
    let edge = over_here counts place.Edge (place.Face ∷ place.Corner ∷ []) point.1 in
    let face = over_here counts place.Face (place.Corner ∷ []) edge.1 in
    let corner = over_here counts place.Corner [] face.1 in
    (point.0, edge.0, face.0, corner.0)
