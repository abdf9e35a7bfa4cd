-- Arrays by how many elements they have.
use Rattle.std.proofs.Common.{◌≡◌, ◌≢◌, None, List, [], ◌∷◌, length, refl}
use Rattle.serde_json.specs.View.{items_view}
use Rattle.serde_json.specs.declared.value.Value.{Value}
use Rattle.gn_atom.specs.Constant.{three_numbers}

pub not_three : (vs : List Value) → length vs ≢ 3 → three_numbers (items_view vs) ≡ None
not_three [] h = refl
not_three (x ∷ []) h = refl
not_three (x ∷ y ∷ []) h = refl
not_three (x ∷ y ∷ z ∷ []) h = absurd (h refl)
not_three (x ∷ y ∷ z ∷ v ∷ vs) h = refl
