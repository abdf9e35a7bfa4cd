-- Members, places and maps of lists.
use Rattle.std.proofs.Common.{◌≡◌, ◌⊎◌, inl, inr, ℕ, zero, suc, List, [], ◌∷◌, ◌++◌, map, Option, Some, None, true, false, refl, sym, ◌∙◌, ap, subst}
use Rattle.std.specs.Prelude.{is_some, slice_get, slice_index_or}
use Rattle.gn_node_set.specs.Meanings.{Has, AllDiffer}

pub some_same : {A : Type 0} {a b : A} → Some a ≡ Some b → a ≡ b
some_same e = cc

pub held : {A : Type 0} (o : Option A) → is_some o ≡ true → (a : A) × (o ≡ Some a)
held None e = cc
held (Some a) e = (a, refl)

pub is_held : {A : Type 0} (o : Option A) (a : A) → o ≡ Some a → is_some o ≡ true
is_held o a e = ap is_some e

pub not_held : {A : Type 0} (o : Option A) → is_some o ≡ false → o ≡ None
not_held None e = refl
not_held (Some a) e = cc

pub not_both : {A : Type 0} {o : Option A} {a : A} → o ≡ None → o ≡ Some a → ⊥
not_both e f = let bad : None ≡ Some _ = sym e ∙ f in cc

pub append_nil : {A : Type 0} (xs : List A) → xs ++ [] ≡ xs
append_nil [] = refl
append_nil (x ∷ xs) = ap (λ ys. x ∷ ys) (append_nil xs)

pub append_assoc : {A : Type 0} (xs ys zs : List A) → (xs ++ ys) ++ zs ≡ xs ++ (ys ++ zs)
append_assoc [] ys zs = refl
append_assoc (x ∷ xs) ys zs = ap (λ us. x ∷ us) (append_assoc xs ys zs)

pub map_append : {A B : Type 0} (f : A → B) (xs ys : List A) → map f (xs ++ ys) ≡ map f xs ++ map f ys
map_append f [] ys = refl
map_append f (x ∷ xs) ys = ap (λ us. f x ∷ us) (map_append f xs ys)

pub map_map : {A B C : Type 0} (f : B → C) (g : A → B) (xs : List A) → map f (map g xs) ≡ map (λ x. f (g x)) xs
map_map f g [] = refl
map_map f g (x ∷ xs) = ap (λ us. f (g x) ∷ us) (map_map f g xs)

pub map_equal : {A B : Type 0} (f g : A → B) (xs : List A) → ((x : A) → Has xs x → f x ≡ g x) → map f xs ≡ map g xs
map_equal f g [] h = refl
map_equal f g (x ∷ xs) h = λ i. h x (inl refl) i ∷ map_equal f g xs (λ y y_in. h y (inr y_in)) i

pub has_first : {A : Type 0} (xs ys : List A) (x : A) → Has xs x → Has (xs ++ ys) x
has_first [] ys x h = absurd h
has_first (y ∷ xs) ys x (inl e) = inl e
has_first (y ∷ xs) ys x (inr h) = inr (has_first xs ys x h)

pub has_second : {A : Type 0} (xs ys : List A) (x : A) → Has ys x → Has (xs ++ ys) x
has_second [] ys x h = h
has_second (y ∷ xs) ys x h = inr (has_second xs ys x h)

pub has_either : {A : Type 0} (xs ys : List A) (x : A) → Has (xs ++ ys) x → Has xs x ⊎ Has ys x
has_either [] ys x h = inr h
has_either (y ∷ xs) ys x (inl e) = inl (inl e)
has_either (y ∷ xs) ys x (inr h) = elim (has_either xs ys x h) [ inl a ↦ inl (inr a) | inr b ↦ inr b ]

pub has_image : {A B : Type 0} (f : A → B) (xs : List A) (x : A) → Has xs x → Has (map f xs) (f x)
has_image f [] x h = absurd h
has_image f (y ∷ xs) x (inl e) = inl (ap f e)
has_image f (y ∷ xs) x (inr h) = inr (has_image f xs x h)

pub image_of : {A B : Type 0} (f : A → B) (xs : List A) (y : B) → Has (map f xs) y → (x : A) × Has xs x × (y ≡ f x)
image_of f [] y h = absurd h
image_of f (x ∷ xs) y (inl e) = (x, inl refl, e)
image_of f (x ∷ xs) y (inr h) = let t : (x : _) × Has xs x × (y ≡ f x) = image_of f xs y h in (t.0, inr t.1, t.2)

pub member_at : {A : Type 0} (xs : List A) (n : ℕ) (x : A) → slice_get xs n ≡ Some x → Has xs x
member_at [] n x e = cc
member_at (y ∷ xs) zero x e = inl (sym (some_same e))
member_at (y ∷ xs) (suc n) x e = inr (member_at xs n x e)

pub place_of : {A : Type 0} (xs : List A) (x : A) → Has xs x → (n : ℕ) × (slice_get xs n ≡ Some x)
place_of [] x h = absurd h
place_of (y ∷ xs) x (inl e) = (0, ap Some (sym e))
place_of (y ∷ xs) x (inr h) = let t : (n : ℕ) × (slice_get xs n ≡ Some x) = place_of xs x h in (suc t.0, t.1)

pub same_place : {A : Type 0} (xs ys : List A) (n : ℕ) (x : A) → slice_get xs n ≡ Some x → slice_get (xs ++ ys) n ≡ Some x
same_place [] ys n x e = cc
same_place (y ∷ xs) ys zero x e = e
same_place (y ∷ xs) ys (suc n) x e = same_place xs ys n x e

pub index_at : {A : Type 0} (xs : List A) (n : ℕ) (d x : A) → slice_get xs n ≡ Some x → slice_index_or xs n d ≡ x
index_at [] n d x e = cc
index_at (y ∷ xs) zero d x e = some_same e
index_at (y ∷ xs) (suc n) d x e = index_at xs n d x e

pub index_image : {A B : Type 0} (f : A → B) (xs : List A) (n : ℕ) (d : A) → slice_index_or (map f xs) n (f d) ≡ f (slice_index_or xs n d)
index_image f [] n d = refl
index_image f (x ∷ xs) zero d = refl
index_image f (x ∷ xs) (suc n) d = index_image f xs n d

-- what stands at a place, or the value that stands for it
pub at_or : {A : Type 0} (xs : List A) (n : ℕ) (d : A) → (slice_get xs n ≡ Some (slice_index_or xs n d)) ⊎ ((slice_get xs n ≡ None) × (slice_index_or xs n d ≡ d))
at_or [] n d = inr (refl, refl)
at_or (x ∷ xs) zero d = inl refl
at_or (x ∷ xs) (suc n) d = at_or xs n d

-- what stands at a place of an image
pub image_at : {A B : Type 0} (f : A → B) (xs : List A) (n : ℕ) (y : B) → slice_get (map f xs) n ≡ Some y → (x : A) × (slice_get xs n ≡ Some x) × (f x ≡ y)
image_at f [] n y e = cc
image_at f (x ∷ xs) zero y e = (x, refl, some_same e)
image_at f (x ∷ xs) (suc n) y e = image_at f xs n y e

pub at_image : {A B : Type 0} (f : A → B) (xs : List A) (n : ℕ) (x : A) → slice_get xs n ≡ Some x → slice_get (map f xs) n ≡ Some (f x)
at_image f [] n x e = cc
at_image f (y ∷ xs) zero x e = ap Some (ap f (some_same e))
at_image f (y ∷ xs) (suc n) x e = at_image f xs n x e

-- where the images of members differ, a member is known by its image, and has one place
pub known_by : {A B : Type 0} (f : A → B) (xs : List A) → AllDiffer (map f xs) → (x y : A) → Has xs x → Has xs y → f x ≡ f y → x ≡ y
known_by f [] d x y h k e = absurd h
known_by f (z ∷ xs) d x y (inl p) (inl q) e = p ∙ sym q
known_by f (z ∷ xs) d x y (inl p) (inr k) e = absurd (d.0 (subst (Has (map f xs)) (sym e ∙ ap f p) (has_image f xs y k)))
known_by f (z ∷ xs) d x y (inr h) (inl q) e = absurd (d.0 (subst (Has (map f xs)) (e ∙ ap f q) (has_image f xs x h)))
known_by f (z ∷ xs) d x y (inr h) (inr k) e = known_by f xs d.1 x y h k e

pub one_place : {A B : Type 0} (f : A → B) (xs : List A) → AllDiffer (map f xs) → (n k : ℕ) (x y : A) → slice_get xs n ≡ Some x → slice_get xs k ≡ Some y → f x ≡ f y → n ≡ k
one_place f [] d n k x y h i e = cc
one_place f (z ∷ xs) d zero zero x y h i e = refl
one_place f (z ∷ xs) d zero (suc k) x y h i e =
    absurd (d.0 (subst (Has (map f xs)) (sym e ∙ ap f (sym (some_same h))) (has_image f xs y (member_at xs k y i))))
one_place f (z ∷ xs) d (suc n) zero x y h i e =
    absurd (d.0 (subst (Has (map f xs)) (e ∙ ap f (sym (some_same i))) (has_image f xs x (member_at xs n x h))))
one_place f (z ∷ xs) d (suc n) (suc k) x y h i e = ap suc (one_place f xs d.1 n k x y h i e)

-- two lists that have nothing in common
pub differ_joined : {A : Type 0} (xs ys : List A) → AllDiffer xs → AllDiffer ys → ((x : A) → Has xs x → Has ys x → ⊥) → AllDiffer (xs ++ ys)
differ_joined [] ys d e apart = e
differ_joined (x ∷ xs) ys d e apart = (
  λ h. elim (has_either xs ys x h) [ inl a ↦ d.0 a | inr b ↦ apart x (inl refl) b ],
  differ_joined xs ys d.1 e (λ y a b. apart y (inr a) b),
)
