-- Lists of numbers that rise.
use Rattle.std.proofs.Common.{◌≡◌, ℕ, zero, suc, ◌+◌, ◌<◌, ◌≤◌, Bool, true, false, cond, ◌||◌, eqb, List, [], ◌∷◌, ◌++◌, length, get_or, refl, sym, ap, ◌∙◌, arith, subst, inl, inr}
use Rattle.std.specs.Prelude.{◌⊎◌}
use Rattle.std.specs.List.{filter, range_with_len}
use Rattle.std.specs.List.Sorted.{IsStrictlyIncreasing}
use Rattle.std.proofs.lemmas.Bool.{eqb-true, eq-eqb, ne_eqb, cases_order, both_ways}
use Rattle.gn_mask.specs.Numbers.{is_among}

-- the numbers rise, from one on and below another
abbrev pub Rising : ℕ → ℕ → List ℕ → Type 0
Rising from below [] = from ≤ below
Rising from below (n ∷ ns) = (from ≤ n) × Rising (suc n) below ns

pub rising_lower : (a b below : ℕ) (ns : List ℕ) → a ≤ b → Rising b below ns → Rising a below ns
rising_lower a b below [] h r = omega arith
rising_lower a b below (n ∷ ns) h r = (omega arith, r.1)

pub rising_range : (a n below : ℕ) → a + n ≤ below → Rising a below (range_with_len a n)
rising_range a zero below h = omega arith
rising_range a (suc n) below h = (omega arith, rising_lower (suc a) (a + 1) below (range_with_len (a + 1) n) (omega arith) (rising_range (a + 1) n below (omega arith)))

pub rising_append : (from between below : ℕ) (xs ys : List ℕ) → Rising from between xs → Rising between below ys → Rising from below (xs ++ ys)
rising_append from between below [] ys r s = rising_lower from between below ys r s
rising_append from between below (x ∷ xs) ys r s = (r.0, rising_append (suc x) between below xs ys r.1 s)

pub rising_filter : (p : ℕ → Bool) (from below : ℕ) (ns : List ℕ) → Rising from below ns → Rising from below (filter p ns)
rising_filter p from below [] r = r
rising_filter p from below (n ∷ ns) r = by (p n) (rising_filter p (suc n) below ns r.1)
  where
    by : (t : Bool) → Rising (suc n) below (filter p ns) → Rising from below (cond t (n ∷ filter p ns) (filter p ns))
    by true rest = (r.0, rest)
    by false rest = rising_lower from (suc n) below (filter p ns) (omega (arith, r.0)) rest

-- a number below all is not among them
pub not_among : (from below x : ℕ) (ns : List ℕ) → Rising from below ns → x < from → is_among ns x ≡ false
not_among from below x [] r h = refl
not_among from below x (n ∷ ns) r h =
    let e : eqb x n ≡ false = ne_eqb x n (λ e. omega arith) in
    rw (e, not_among (suc n) below x ns r.1 (omega arith)) refl

first_among : (x : ℕ) (ns : List ℕ) → is_among (x ∷ ns) x ≡ true
first_among x ns = let e : eqb x x ≡ true = eq-eqb x x refl in rw e refl

rest_among : (x y : ℕ) (xs ys : List ℕ) (below above : ℕ) → Rising (suc x) below xs → Rising (suc y) above ys → x ≡ y → ((n : ℕ) → is_among (x ∷ xs) n ≡ is_among (y ∷ ys) n) → (n : ℕ) → is_among xs n ≡ is_among ys n
rest_among x y xs ys below above r s e h n = by (eqb n x) refl
  where
    by : (t : Bool) → eqb n x ≡ t → is_among xs n ≡ is_among ys n
    by true t =
        let at = eqb-true n x t in
        not_among (suc x) below n xs r (omega arith) ∙ sym (not_among (suc y) above n ys s (omega arith))
    by false t =
        let u : eqb n y ≡ false = ap (eqb n) (sym e) ∙ t in
        sym (ap (λ b. b || is_among xs n) t) ∙ h n ∙ ap (λ b. b || is_among ys n) u

-- two lists that rise and have the same numbers are one
pub same_rising : (a below c above : ℕ) (xs ys : List ℕ) → Rising a below xs → Rising c above ys → ((n : ℕ) → is_among xs n ≡ is_among ys n) → xs ≡ ys
same_rising a below c above [] [] r s h = refl
same_rising a below c above [] (y ∷ ys) r s h = absurd (both_ways (is_among (y ∷ ys) y) (sym (h y)) (first_among y ys))
same_rising a below c above (x ∷ xs) [] r s h = absurd (both_ways (is_among (x ∷ xs) x) (h x) (first_among x xs))
same_rising a below c above (x ∷ xs) (y ∷ ys) r s h =
    by (cases_order x y) (λ e. same_rising (suc x) below (suc y) above xs ys r.1 s.1 (rest_among x y xs ys below above r.1 s.1 e h))
  where
    by : (x ≡ y) ⊎ ((x < y) ⊎ (y < x)) → (x ≡ y → xs ≡ ys) → x ∷ xs ≡ y ∷ ys
    by (inl e) rest = ap (λ n. n ∷ xs) e ∙ ap (λ ns. y ∷ ns) (rest e)
    by (inr (inl l)) rest = absurd (both_ways (is_among (x ∷ xs) x) (h x ∙ not_among y above x (y ∷ ys) (omega arith, s.1) l) (first_among x xs))
    by (inr (inr l)) rest = absurd (both_ways (is_among (y ∷ ys) y) (sym (h y) ∙ not_among x below y (x ∷ xs) (omega arith, r.1) l) (first_among y ys))

first_above : (from below : ℕ) (ns : List ℕ) → Rising from below ns → 0 < length ns → from ≤ get_or ns 0 0
first_above from below [] r h = omega arith
first_above from below (n ∷ ns) r h = r.0

pub increases : (from below : ℕ) (ns : List ℕ) → Rising from below ns → IsStrictlyIncreasing ns
increases from below [] r k h = omega arith
increases from below (n ∷ ns) r zero h = first_above (suc n) below ns r.1 (omega arith)
increases from below (n ∷ ns) r (suc k) h =
    let e : suc k + 1 ≡ suc (k + 1) = omega arith in
    subst (λ j. get_or ns k 0 < get_or (n ∷ ns) j 0) (sym e) (increases (suc n) below ns r.1 k (omega arith))
