-- Few elements on a place, and on the places of a mesh.
use Rattle.std.proofs.Common.{◌≡◌, ℕ, ◌-◌, ◌≤◌, ◌^◌, min, Bool, true, false, cond, nat_lt, List, [], ◌∷◌, Option, Some, None, refl, ap, ◌∙◌, arith}
use Rattle.std.proofs.lemmas.Bool.Decides.{nat_tests}
use Rattle.gn_value.specs.declared.value.Place.{Place}
use Rattle.gn_value.specs.declared.value.Place.TheVariants as place
use Rattle.gn_joins.specs.Limits.{all_places, first_over, most_elements}
use Rattle.gn_pieces.specs.Lists.{mesh_places}

not_over : (n : ℕ) → nat_lt most_elements n ≡ false → n ≤ most_elements
not_over n h = grind (arith, nat_tests)

not_above : (n : ℕ) → n ≤ most_elements → nat_lt most_elements n ≡ false
not_above n h = grind (arith, nat_tests)

none_by : {A : Type 0} (b : Bool) (x : A) (rest : Option A) → cond b (Some x) rest ≡ None → (b ≡ false) × (rest ≡ None)
none_by true x rest h = cc
none_by false x rest h = (refl, h)

here_few : (counts : Place → ℕ) (p : Place) (ps : List Place) → first_over counts (p ∷ ps) ≡ None → (counts p ≤ most_elements) × (first_over counts ps ≡ None)
here_few counts p ps h =
    let two = none_by (nat_lt most_elements (counts p)) (p, min (counts p) (2 ^ 64 - 1)) (first_over counts ps) h in
    (not_over (counts p) two.0, two.1)

few_more : (counts : Place → ℕ) (p : Place) (ps : List Place) → counts p ≤ most_elements → first_over counts ps ≡ None → first_over counts (p ∷ ps) ≡ None
few_more counts p ps few rest = ap (λ b. cond b (Some (p, min (counts p) (2 ^ 64 - 1))) (first_over counts ps)) (not_above (counts p) few) ∙ rest

-- fewer elements are few
pub fewer : (f g : Place → ℕ) (ps : List Place) → ((p : Place) → f p ≤ g p) → first_over g ps ≡ None → first_over f ps ≡ None
fewer f g [] below none = refl
fewer f g (p ∷ ps) below none = let two = here_few g p ps none in few_more f p ps (omega (arith, below p, two.0)) (fewer f g ps below two.1)

-- on the places of a mesh too
pub mesh_few : (counts : Place → ℕ) → first_over counts all_places ≡ None → first_over counts mesh_places ≡ None
mesh_few counts none =
    let point = here_few counts place.Point (place.Edge ∷ place.Face ∷ place.Corner ∷ place.Cloud ∷ place.Instance ∷ []) none in
    let edge = here_few counts place.Edge (place.Face ∷ place.Corner ∷ place.Cloud ∷ place.Instance ∷ []) point.1 in
    let face = here_few counts place.Face (place.Corner ∷ place.Cloud ∷ place.Instance ∷ []) edge.1 in
    let corner = here_few counts place.Corner (place.Cloud ∷ place.Instance ∷ []) face.1 in
    few_more counts place.Point (place.Edge ∷ place.Face ∷ place.Corner ∷ []) point.0
    (few_more counts place.Edge (place.Face ∷ place.Corner ∷ []) edge.0 (few_more counts place.Face (place.Corner ∷ []) face.0 (few_more counts place.Corner [] corner.0 refl)))

pub cloud_few : (counts : Place → ℕ) → first_over counts all_places ≡ None → counts place.Cloud ≤ most_elements
cloud_few counts none =
    let point = here_few counts place.Point (place.Edge ∷ place.Face ∷ place.Corner ∷ place.Cloud ∷ place.Instance ∷ []) none in
    let edge = here_few counts place.Edge (place.Face ∷ place.Corner ∷ place.Cloud ∷ place.Instance ∷ []) point.1 in
    let face = here_few counts place.Face (place.Corner ∷ place.Cloud ∷ place.Instance ∷ []) edge.1 in
    let corner = here_few counts place.Corner (place.Cloud ∷ place.Instance ∷ []) face.1 in
    (here_few counts place.Cloud (place.Instance ∷ []) corner.1).0

pub instances_few : (counts : Place → ℕ) → first_over counts all_places ≡ None → counts place.Instance ≤ most_elements
instances_few counts none =
    let point = here_few counts place.Point (place.Edge ∷ place.Face ∷ place.Corner ∷ place.Cloud ∷ place.Instance ∷ []) none in
    let edge = here_few counts place.Edge (place.Face ∷ place.Corner ∷ place.Cloud ∷ place.Instance ∷ []) point.1 in
    let face = here_few counts place.Face (place.Corner ∷ place.Cloud ∷ place.Instance ∷ []) edge.1 in
    let corner = here_few counts place.Corner (place.Cloud ∷ place.Instance ∷ []) face.1 in
    let cloud = here_few counts place.Cloud (place.Instance ∷ []) corner.1 in
    (here_few counts place.Instance [] cloud.1).0
