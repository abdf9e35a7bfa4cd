-- What holds of each element of a list, and of each two.
use Rattle.std.proofs.Common.{◌≡◌, ◌≢◌, zero, suc, Bool, true, false, cond, List, [], ◌∷◌, ◌++◌, map, filter, ap, arith}
use Rattle.std.specs.Prelude.{All, AllPairs}

abbrev pub Each : {X : Type 0} → (X → Type 0) → List X → Type 0
Each P [] = Unit {0}
Each P (x ∷ xs) = P x × Each P xs

abbrev pub Pairs : {X : Type 0} → List X → Type 0
Pairs [] = Unit {0}
Pairs (x ∷ xs) = Each (λ y. x ≡ y → ⊥) xs × Pairs xs

module _ {X : Type 0} (P : X → Type 0) where
  pub all_from_each : (xs : List X) → Each P xs → All P xs
  all_from_each [] h k d here = absurd (omega arith)
  all_from_each (x ∷ xs) h zero d here = h.0
  all_from_each (x ∷ xs) h (suc k) d here = all_from_each xs h.1 k d (omega arith)

  pub each-append : (xs ys : List X) → Each P xs → Each P ys → Each P (xs ++ ys)
  each-append [] ys h k = k
  each-append (x ∷ xs) ys h k = (h.0, each-append xs ys h.1 k)

  pub each-front : (xs ys : List X) → Each P (xs ++ ys) → Each P xs
  each-front [] ys h = tt
  each-front (x ∷ xs) ys h = (h.0, each-front xs ys h.1)

  pub each-back : (xs ys : List X) → Each P (xs ++ ys) → Each P ys
  each-back [] ys h = h
  each-back (x ∷ xs) ys h = each-back xs ys h.1

  filter-at : (p : X → Bool) (x : X) (xs : List X) (b : Bool) → P x → Each P (filter p xs) → Each P (cond b (x ∷ filter p xs) (filter p xs))
  filter-at p x xs true h k = (h, k)
  filter-at p x xs false h k = k

  pub each-filter : (p : X → Bool) (xs : List X) → Each P xs → Each P (filter p xs)
  each-filter p [] h = tt
  each-filter p (x ∷ xs) h = filter-at p x xs (p x) h.0 (each-filter p xs h.1)

  pub each-more : (Q : X → Type 0) → ((x : X) → P x → Q x) → (xs : List X) → Each P xs → Each Q xs
  each-more Q f [] h = tt
  each-more Q f (x ∷ xs) h = (f x h.0, each-more Q f xs h.1)

  pub each-map : {Y : Type 0} (f : Y → X) (ys : List Y) → Each (λ y. P (f y)) ys → Each P (map f ys)
  each-map f [] h = tt
  each-map f (y ∷ ys) h = (h.0, each-map f ys h.1)

  pub each-unmap : {Y : Type 0} (f : Y → X) (ys : List Y) → Each P (map f ys) → Each (λ y. P (f y)) ys
  each-unmap f [] h = tt
  each-unmap f (y ∷ ys) h = (h.0, each-unmap f ys h.1)

module _ {X : Type 0} where
  pub all_from_pairs : (xs : List X) → Pairs xs → AllPairs (λ a b. a ≢ b) xs
  all_from_pairs [] h i j d below here = absurd (omega arith)
  all_from_pairs (x ∷ xs) h i zero d below here = absurd (omega arith)
  all_from_pairs (x ∷ xs) h zero (suc j) d below here = all_from_each (λ y. x ≡ y → ⊥) xs h.0 j d (omega arith)
  all_from_pairs (x ∷ xs) h (suc i) (suc j) d below here = all_from_pairs xs h.1 i j d (omega arith) (omega arith)

  filtered-at : (p : X → Bool) (x : X) (xs : List X) (b : Bool) → Each (λ y. x ≡ y → ⊥) xs → Pairs (filter p xs) → Pairs (cond b (x ∷ filter p xs) (filter p xs))
  filtered-at p x xs true h k = (each-filter (λ y. x ≡ y → ⊥) p xs h, k)
  filtered-at p x xs false h k = k

  pub pairs-filter : (p : X → Bool) (xs : List X) → Pairs xs → Pairs (filter p xs)
  pairs-filter p [] h = tt
  pairs-filter p (x ∷ xs) h = filtered-at p x xs (p x) h.0 (pairs-filter p xs h.1)

pub pairs-unmap : {X Y : Type 0} (f : X → Y) (xs : List X) → Pairs (map f xs) → Pairs xs
pairs-unmap f [] h = tt
pairs-unmap f (x ∷ xs) h =
    (each-more (λ y. f x ≡ f y → ⊥) (λ y. x ≡ y → ⊥) (λ y differ same. differ (ap f same)) xs (each-unmap (λ z. f x ≡ z → ⊥) f xs h.0), pairs-unmap f xs h.1)
