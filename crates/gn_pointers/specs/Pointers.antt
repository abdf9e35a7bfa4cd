-- Pointers in a value, and the first of those where something holds.
use Rattle.std.specs.Prelude.{◌≡◌, ℕ, false, List, [], ◌∷◌, Option, Some, None, if◌then◌else◌}
use Rattle.std.specs.declared.cmp.Ordering.{Ordering}
use Rattle.std.specs.declared.cmp.Ordering.TheVariants.{Less, Greater}
use Rattle.std.specs.Ordering.{nat_cmp, is_eq, is_gt}
use Rattle.std.specs.Cmp.Lexicographic.{slice_cmp}

-- to an array's element by its number, or to an object's member by its key
pub data Step : Type 0 where
  index : ℕ → Step
  key : List ℕ → Step

-- the way to a value from the top
abbrev pub Pointer : Type 0
Pointer = List Step

abbrev pub step_cmp : Step → Step → Ordering
step_cmp (index i) (index j) = nat_cmp i j
step_cmp (key k) (key l) = slice_cmp nat_cmp k l
step_cmp (index i) (key l) = Less
step_cmp (key k) (index j) = Greater

-- an object stands before its members; arrays go by number, keys by their bytes
abbrev pub pointer_cmp : Pointer → Pointer → Ordering
pointer_cmp = slice_cmp step_cmp

-- the first pointer where P holds, or none where it holds nowhere
abbrev pub IsFirst : (Pointer → Type 0) → Option Pointer → Type 0
IsFirst P None = (p : Pointer) → ¬ P p
IsFirst P (Some p) = P p × ((q : Pointer) → P q → is_gt (pointer_cmp p q) ≡ false)

-- what the option has meets P
abbrev pub Holds : {X : Type 0} → (X → Type 0) → Option X → Type 0
Holds P None = ⊥
Holds P (Some x) = P x

module _ {X : Type 0} where
  abbrev pub part_at : Step → List (Step × X) → Option X
  part_at s [] = None
  part_at s ((t, x) ∷ xs) = if is_eq (step_cmp s t) then Some x else part_at s xs

module _ {X : Type 0} (parts : X → List (Step × X)) (Bad : X → Type 0) where
  -- what stands at the pointer is bad
  abbrev pub IsBadAt : X → Pointer → Type 0
  IsBadAt x [] = Bad x
  IsBadAt x (s ∷ p) = Holds (λ y. IsBadAt y p) (part_at s (parts x))

-- the first pointer in a part, or else the first in the later ones
abbrev pub joined : Step → Option Pointer → Option Pointer → Option Pointer
joined s None rest = rest
joined s (Some p) rest = Some (s ∷ p)
