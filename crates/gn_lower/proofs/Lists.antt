-- Lists by number.
use Rattle.std.proofs.Common.{◌≡◌, ◌≢◌, ◌<◌, ◌⊎◌, inl, inr, ℕ, zero, suc, List, [], ◌∷◌, ◌++◌, map, length, take, drop, reverse, Option, Some, refl, sym, ◌∙◌, ap, arith}
use Rattle.std.specs.Prelude.{slice_get, slice_set, option_map, option_and_then}
use Rattle.std.proofs.lemmas.List.{reverse-append, reverse-reverse}
use Rattle.gn_lazy.specs.declared.path.PathStep.{PathStep}
use Rattle.gn_node_set.specs.Lists.{all_of}
use Rattle.gn_node_set.proofs.Lists.{append_assoc}
use Rattle.gn_meaning.specs.Sites.{path_by, path_of, plain_step}
use Rattle.gn_meaning.proofs.Options.{some_same, then_some, map_some}
use Rattle.gn_lower.specs.Unfolding.{way_by}

-- ---- what stands at a number, and before and behind it

pub drop_next : {A : Type 0} (xs : List A) (i : ℕ) (x : A) → slice_get xs i ≡ Some x → drop i xs ≡ x ∷ drop (suc i) xs
drop_next [] i x e = cc
drop_next (y ∷ xs) zero x e = ap (λ z. z ∷ xs) (some_same e)
drop_next (y ∷ xs) (suc i) x e = drop_next xs i x e

pub take_next : {A : Type 0} (xs : List A) (i : ℕ) (x : A) → slice_get xs i ≡ Some x → take (suc i) xs ≡ take i xs ++ x ∷ []
take_next [] i x e = cc
take_next (y ∷ xs) zero x e = ap (λ z. z ∷ []) (some_same e)
take_next (y ∷ xs) (suc i) x e = ap (λ zs. y ∷ zs) (take_next xs i x e)

pub parted : {A : Type 0} (xs : List A) (i : ℕ) (x : A) → slice_get xs i ≡ Some x → take i xs ++ x ∷ drop (suc i) xs ≡ xs
parted [] i x e = cc
parted (y ∷ xs) zero x e = ap (λ z. z ∷ xs) (sym (some_same e))
parted (y ∷ xs) (suc i) x e = ap (λ zs. y ∷ zs) (parted xs i x e)

-- ---- after a write

pub set_same : {A : Type 0} (xs : List A) (n : ℕ) (y : A) → n < length xs → slice_get (slice_set xs n y) n ≡ Some y
set_same [] n y h = absurd (omega (arith, h))
set_same (x ∷ xs) zero y h = refl
set_same (x ∷ xs) (suc n) y h = set_same xs n y (omega (arith, h))

pub set_other : {A : Type 0} (xs : List A) (n m : ℕ) (y : A) → m ≢ n → slice_get (slice_set xs n y) m ≡ slice_get xs m
set_other [] n m y h = refl
set_other (x ∷ xs) zero zero y h = absurd (h refl)
set_other (x ∷ xs) zero (suc m) y h = refl
set_other (x ∷ xs) (suc n) zero y h = refl
set_other (x ∷ xs) (suc n) (suc m) y h = set_other xs n m y (λ e. h (ap suc e))

pub set_length : {A : Type 0} (xs : List A) (n : ℕ) (y : A) → length (slice_set xs n y) ≡ length xs
set_length [] n y = refl
set_length (x ∷ xs) zero y = refl
set_length (x ∷ xs) (suc n) y = ap suc (set_length xs n y)

-- ---- values of all

pub all_at : {A B : Type 0} (f : A → Option B) (xs : List A) (ys : List B) (i : ℕ) (x : A) → all_of (map f xs) ≡ Some ys → slice_get xs i ≡ Some x → (y : B) × (slice_get ys i ≡ Some y) × (f x ≡ Some y)
all_at f [] ys i x e at = cc
all_at {A} {B} f (z ∷ xs) ys zero x e at =
    let first : (v : B) × (f z ≡ Some v) × (option_map (λ vs. v ∷ vs) (all_of (map f xs)) ≡ Some ys) = then_some (λ v. option_map (λ vs. v ∷ vs) (all_of (map f xs))) (f z) ys e in
    let rest : (vs : List B) × (all_of (map f xs) ≡ Some vs) × (first.0 ∷ vs ≡ ys) = map_some (λ vs. first.0 ∷ vs) (all_of (map f xs)) ys first.2 in
    (first.0, ap (λ l. slice_get l 0) (sym rest.2), ap f (sym (some_same at)) ∙ first.1)
all_at {A} {B} f (z ∷ xs) ys (suc i) x e at =
    let first : (v : B) × (f z ≡ Some v) × (option_map (λ vs. v ∷ vs) (all_of (map f xs)) ≡ Some ys) = then_some (λ v. option_map (λ vs. v ∷ vs) (all_of (map f xs))) (f z) ys e in
    let rest : (vs : List B) × (all_of (map f xs) ≡ Some vs) × (first.0 ∷ vs ≡ ys) = map_some (λ vs. first.0 ∷ vs) (all_of (map f xs)) ys first.2 in
    let at_rest : (y : B) × (slice_get rest.0 i ≡ Some y) × (f x ≡ Some y) = all_at f xs rest.0 i x rest.1 at in
    (at_rest.0, ap (λ l. slice_get l (suc i)) (sym rest.2) ∙ at_rest.1, at_rest.2)

pub all_with : {A B : Type 0} (f : A → Option B) (xs : List A) (ys : List B) (x : A) (y : B) → all_of (map f xs) ≡ Some ys → f x ≡ Some y → all_of (map f (xs ++ x ∷ [])) ≡ Some (ys ++ y ∷ [])
all_with f [] ys x y e at = ap (option_and_then (λ v. option_map (λ vs. v ∷ vs) (Some []))) at ∙ ap (λ zs. Some (zs ++ y ∷ [])) (some_same e)
all_with {A} {B} f (z ∷ xs) ys x y e at =
    let first : (v : B) × (f z ≡ Some v) × (option_map (λ vs. v ∷ vs) (all_of (map f xs)) ≡ Some ys) = then_some (λ v. option_map (λ vs. v ∷ vs) (all_of (map f xs))) (f z) ys e in
    let rest : (vs : List B) × (all_of (map f xs) ≡ Some vs) × (first.0 ∷ vs ≡ ys) = map_some (λ vs. first.0 ∷ vs) (all_of (map f xs)) ys first.2 in
    ap (option_and_then (λ v. option_map (λ vs. v ∷ vs) (all_of (map f (xs ++ x ∷ []))))) first.1
    ∙ (ap (option_map (λ vs. first.0 ∷ vs)) (all_with f xs rest.0 x y rest.1 at) ∙ ap (λ zs. Some (zs ++ y ∷ [])) rest.2)

-- ---- from the end

pub reverse_push : {A : Type 0} (xs : List A) (x : A) → reverse (xs ++ x ∷ []) ≡ x ∷ reverse xs
reverse_push xs x = reverse-append xs (x ∷ [])

pub reverse_empty : {A : Type 0} (xs : List A) → reverse xs ≡ [] → xs ≡ []
reverse_empty xs e = sym (reverse-reverse xs) ∙ ap reverse e

-- ---- ways by their steps

pub path_by_steps : (steps p : List PathStep) → path_by (way_by steps) p ≡ reverse steps ++ p
path_by_steps [] p = refl
path_by_steps (step ∷ steps) p = path_by_steps steps (step ∷ p) ∙ (sym (append_assoc (reverse steps) (step ∷ []) p) ∙ ap (λ xs. xs ++ p) (sym (reverse-append (step ∷ []) steps)))

pub path_at : (steps : List PathStep) (n : ℕ) → path_of (way_by steps) n ≡ reverse steps ++ plain_step n ∷ []
path_at steps n = path_by_steps steps (plain_step n ∷ [])

-- ---- one more at the end

pub last_at : {A : Type 0} (xs : List A) (x : A) → slice_get (xs ++ x ∷ []) (length xs) ≡ Some x
last_at [] x = refl
last_at (y ∷ xs) x = last_at xs x

pub by_number : {A : Type 0} (xs : List A) (x : A) (n : ℕ) (y : A) → slice_get (xs ++ x ∷ []) n ≡ Some y → ((slice_get xs n ≡ Some y) × (take n (xs ++ x ∷ []) ≡ take n xs)) ⊎ ((y ≡ x) × (take n (xs ++ x ∷ []) ≡ xs))
by_number [] x zero y at = inr (sym (some_same at), refl)
by_number [] x (suc n) y at = cc
by_number (z ∷ zs) x zero y at = inl (at, refl)
by_number (z ∷ zs) x (suc n) y at = elim (by_number zs x n y at) [ inl p ↦ inl (p.0, ap (λ ts. z ∷ ts) p.1) | inr p ↦ inr (p.0, ap (λ ts. z ∷ ts) p.1) ]
