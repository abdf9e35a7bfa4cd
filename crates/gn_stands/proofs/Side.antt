-- Lists side by side, and what a run selects of them.
use Rattle.std.proofs.Common.{◌≡◌, ◌⊎◌, inl, inr, ℕ, zero, suc, List, [], ◌∷◌, Some, refl, sym, subst}
use Rattle.std.specs.Prelude.{slice_get}
use Rattle.gn_tree.specs.Trees.{Tree}
use Rattle.gn_node_set.specs.Meanings.{Has, Link, Role, Plain, Switch, File, Zone, Choice, one_case, all_cases, no_case, selected, first_read, then_read}
use Rattle.gn_node_set.proofs.Lists.{some_same}
use Rattle.gn_exec_laws.proofs.Sorts.{Beside}
use Rattle.gn_meaning.specs.Sites.{Read}
use Rattle.gn_meaning.specs.Denotation.{Given}
use Rattle.gn_stands.specs.Sources.{Carries, CarryAll}

pub carried_beside : {V : Type 0} (given : Given V) (t : Tree) (rs : List Read) (links : List (Link V)) → CarryAll given t rs links → Beside (Carries given t) rs links
carried_beside given t [] [] c = tt
carried_beside given t (r ∷ rs) (link ∷ links) c = (c.0, carried_beside given t rs links c.1)
carried_beside given t [] (link ∷ links) c = absurd c
carried_beside given t (r ∷ rs) [] c = absurd c

module _ {A B : Type 0} (R : A → B → Type 0) where
  -- each member of the second list stands beside one of the first
  pub beside_from : (xs : List A) (ys : List B) → Beside R xs ys → (y : B) → Has ys y → (x : A) × Has xs x × R x y
  beside_from [] [] b y h = absurd h
  beside_from (x ∷ xs) [] b y h = absurd h
  beside_from [] (z ∷ ys) b y h = absurd b
  beside_from (x ∷ xs) (z ∷ ys) b y (inl e) = (x, inl refl, subst (R x) (sym e) b.0)
  beside_from (x ∷ xs) (z ∷ ys) b y (inr h) = let q : (x' : A) × Has xs x' × R x' y = beside_from xs ys b.1 y h in (q.0, inr q.1, q.2)

  pub beside_has : (xs : List A) (ys : List B) → Beside R xs ys → (x : A) → Has xs x → (y : B) × Has ys y × R x y
  beside_has [] ys b x h = absurd h
  beside_has (z ∷ xs) [] b x h = absurd b
  beside_has (z ∷ xs) (y ∷ ys) b x (inl e) = (y, inl refl, subst (λ a. R a y) (sym e) b.0)
  beside_has (z ∷ xs) (y ∷ ys) b x (inr h) = let q : (y' : B) × Has ys y' × R x y' = beside_has xs ys b.1 x h in (q.0, inr q.1, q.2)

  pub beside_get : (xs : List A) (ys : List B) → Beside R xs ys → (n : ℕ) (x : A) → slice_get xs n ≡ Some x → (y : B) × (slice_get ys n ≡ Some y) × R x y
  beside_get [] [] b n x e = cc
  beside_get (z ∷ xs) [] b n x e = absurd b
  beside_get [] (y ∷ ys) b n x e = cc
  beside_get (z ∷ xs) (y ∷ ys) b zero x e = (y, refl, subst (λ a. R a y) (some_same e) b.0)
  beside_get (z ∷ xs) (y ∷ ys) b (suc n) x e = beside_get xs ys b.1 n x e

pub first_selected : {A : Type 0} (role : Role) (choice : Choice) (xs : List A) (x : A) → Has (first_read role xs) x → Has (selected role choice xs) x
first_selected Plain choice xs x h = h
first_selected File choice xs x h = h
first_selected Zone choice xs x h = h
first_selected Switch choice [] x h = absurd h
first_selected Switch choice (y ∷ xs) x (inl e) = inl e
first_selected Switch choice (y ∷ xs) x (inr h) = absurd h

pub then_selected : {A : Type 0} (role : Role) (choice : Choice) (xs : List A) (x : A) → Has (then_read role choice xs) x → Has (selected role choice xs) x
then_selected Plain choice xs x h = absurd h
then_selected File choice xs x h = absurd h
then_selected Zone choice xs x h = absurd h
then_selected Switch (one_case n) [] x h = absurd h
then_selected Switch all_cases [] x h = absurd h
then_selected Switch no_case [] x h = absurd h
then_selected Switch choice (y ∷ xs) x h = inr h

pub selected_split : {A : Type 0} (role : Role) (choice : Choice) (xs : List A) (x : A) → Has (selected role choice xs) x → Has (first_read role xs) x ⊎ Has (then_read role choice xs) x
selected_split Plain choice xs x h = inl h
selected_split File choice xs x h = inl h
selected_split Zone choice xs x h = inl h
selected_split Switch choice [] x h = absurd h
selected_split Switch choice (y ∷ xs) x (inl e) = inl (inl e)
selected_split Switch choice (y ∷ xs) x (inr h) = inr h
