-- A name that is none of those in a list.
use Rattle.std.proofs.Common.{◌≡◌, Bool, true, false, List, [], ◌∷◌, Option, Some, None, bytes_eq, refl, sym}
use Rattle.std.specs.Prelude.{if◌then◌else◌}
use Rattle.std.proofs.lemmas.Slice.Eq.{bytes_eq-Decides}
use Rattle.gn_kinds.specs.Row.{Text}
use Rattle.gn_node_kind.specs.Named.{named_in}

module _ {A : Type 0} where
  abbrev pub IsOther : Text → List (Text × A) → Type 0
  IsOther name [] = Unit {0}
  IsOther name ((word, a) ∷ rest) = (name ≡ word → ⊥) × IsOther name rest

  none_if : (same : Bool) (word name : Text) (a : A) (rest : Option A) → bytes_eq word name ≡ same → (name ≡ word → ⊥) → None ≡ rest → None ≡ (if same then Some a else rest)
  none_if true word name a rest is other none = absurd (other (sym ((bytes_eq-Decides word name).0 is)))
  none_if false word name a rest is other none = none

  pub none_named : (xs : List (Text × A)) (name : Text) → IsOther name xs → None ≡ named_in xs name
  none_named [] name other = refl
  none_named ((word, a) ∷ xs) name other = none_if (bytes_eq word name) word name a (named_in xs name) refl other.0 (none_named xs name other.1)
