-- Lists in the opposite order, and the numbers of their members.
use Rattle.std.proofs.Common.{◌≡◌, ◌∙◌, ℕ, zero, suc, ◌+◌, ◌-◌, ◌<◌, ◌≤◌, List, [], ◌∷◌, ◌++◌, length, map, take, drop, get_or, refl, sym, ap, subst, arith}
use Rattle.std.specs.List.{All, AllPairs, range_with_len, zip}
use Rattle.std.specs.Prelude.{reverse}
use Rattle.std.proofs.lemmas.List.{length-reverse, get_or-reverse, map-append, drop_more}
use Rattle.std.proofs.lemmas.Grind.{reverse_onto}
use Rattle.std.proofs.lemmas.List.Elements.{All-cons, All-nil}

module _ {X : Type 0} where
  pub reverse_cons : (x : X) (xs : List X) → reverse (x ∷ xs) ≡ reverse xs ++ x ∷ []
  reverse_cons x xs = reverse_onto xs x []

  pub all_reverse : (P : X → Type 0) (xs : List X) → All P xs → All P (reverse xs)
  all_reverse P xs all k d within =
      let long = length-reverse xs in
      let below : k < length xs = omega (arith, within, long) in
      subst P (sym (get_or-reverse xs k d below)) (all (length xs - 1 - k) d (omega (arith, below)))

  pub pairs_reverse : (R : X → X → Type 0) → ((a b : X) → R a b → R b a) → (xs : List X) → AllPairs R xs → AllPairs R (reverse xs)
  pairs_reverse R turned xs all i j d less within =
      let long = length-reverse xs in
      let below : j < length xs = omega (arith, within, long) in
      let first : i < length xs = omega (arith, below, less) in
      subst (λ a. R a (get_or (reverse xs) j d)) (sym (get_or-reverse xs i d first))
      (subst (λ b. R (get_or xs (length xs - 1 - i) d) b) (sym (get_or-reverse xs j d below))
      (turned (get_or xs (length xs - 1 - j) d) (get_or xs (length xs - 1 - i) d) (all (length xs - 1 - j) (length xs - 1 - i) d (omega (arith, less, below)) (omega (arith, first)))))

  pub pairs_head : (R : X → X → Type 0) (x : X) (xs : List X) → AllPairs R (x ∷ xs) → All (R x) xs
  pairs_head R x xs all j d within = all 0 (suc j) d (omega arith) (omega (arith, within))

  pub pairs_tail : (R : X → X → Type 0) (x : X) (xs : List X) → AllPairs R (x ∷ xs) → AllPairs R xs
  pairs_tail R x xs all i j d less within = all (suc i) (suc j) d (omega (arith, less)) (omega (arith, within))

  -- the members from a number on
  pub get_range : (xs : List X) (d : X) (a n : ℕ) → a + n ≤ length xs → map (λ k. get_or xs k d) (range_with_len a n) ≡ take n (drop a xs)
  get_range xs d a zero within = refl
  get_range xs d a (suc n) within =
      let cut : drop a xs ≡ get_or xs a d ∷ drop (a + 1) xs = drop_more xs a d (omega (arith, within)) in
      ap (λ l. get_or xs a d ∷ l) (get_range xs d (a + 1) n (omega (arith, within))) ∙ ap (take (suc n)) (sym cut)

pub map_reverse : {X Y : Type 0} (f : X → Y) (xs : List X) → map f (reverse xs) ≡ reverse (map f xs)
map_reverse f [] = refl
map_reverse f (x ∷ xs) =
    ap (map f) (reverse_cons x xs) ∙ (map-append f (reverse xs) (x ∷ []) ∙ (ap (λ l. l ++ f x ∷ []) (map_reverse f xs) ∙ sym (reverse_cons (f x) (map f xs))))

pub range_more : (a n : ℕ) → range_with_len a (suc n) ≡ range_with_len a n ++ (a + n) ∷ []
range_more a zero = ap (λ k. k ∷ []) (let e : a ≡ a + 0 = omega arith in e)
range_more a (suc n) =
    let e : a + 1 + n ≡ a + suc n = omega arith in
    ap (λ l. a ∷ l) (range_more (a + 1) n ∙ ap (λ k. range_with_len (a + 1) n ++ k ∷ []) e)

pub range_below : (a n bound : ℕ) → a + n ≤ bound → All (λ j. j < bound) (range_with_len a n)
range_below a zero bound within = All-nil (λ j. j < bound)
range_below a (suc n) bound within = All-cons (λ j. j < bound) a (range_with_len (a + 1) n) (omega (arith, within)) (range_below (a + 1) n bound (omega (arith, within)))

-- ---- two lists as one of pairs

module _ {X Y : Type 0} where
  pub zip_append : (xs : List X) (ys : List Y) (us : List X) (vs : List Y) → length xs ≡ length ys → zip (xs ++ us) (ys ++ vs) ≡ zip xs ys ++ zip us vs
  zip_append [] [] us vs e = refl
  zip_append [] (y ∷ ys) us vs e = absurd (omega arith)
  zip_append (x ∷ xs) [] us vs e = absurd (omega arith)
  zip_append (x ∷ xs) (y ∷ ys) us vs e = ap (λ l. (x, y) ∷ l) (zip_append xs ys us vs (omega (arith, e)))
