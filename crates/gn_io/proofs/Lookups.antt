-- A look-up in a map whose keys are texts is one in the list of its names and bytes.
use Rattle.std.specs.Prelude.{◌≡◌, ℕ, List, [], ◌∷◌, map, Some, option_map, cond, true, false, bytes_eq, refl}
use Rattle.std.specs.Cmp.Lexicographic.{slice_cmp}
use Rattle.std.specs.Map.{lookup}
use Rattle.std.specs.Ordering.{is_eq, nat_cmp}
use Rattle.std.proofs.lemmas.Map.Text.{is_eq-slice_cmp}

module _ {K A B : Type 0} (name_of : K → List ℕ) (bytes_of : A → B) (name : List ℕ) where
  pub lookup_by_bytes : (entries : List (K × A))
      → lookup (bytes_eq name) (map (λ entry. (name_of entry.0, bytes_of entry.1)) entries)
      ≡ option_map bytes_of (lookup (λ key. is_eq (slice_cmp nat_cmp name (name_of key))) entries)
  lookup_by_bytes [] = refl
  lookup_by_bytes (entry ∷ entries) =
      rw (is_eq-slice_cmp name (name_of entry.0), lookup_by_bytes entries)
      (elim (bytes_eq name (name_of entry.0)) as (λ b. cond b (Some (bytes_of entry.1)) (option_map bytes_of (lookup (λ key. is_eq (slice_cmp nat_cmp name (name_of key))) entries)) ≡ option_map bytes_of (cond b (Some entry.1) (lookup (λ key. is_eq (slice_cmp nat_cmp name (name_of key))) entries))) [ true ↦ refl | false ↦ refl ])
