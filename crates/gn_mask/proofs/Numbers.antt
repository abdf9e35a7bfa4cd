-- Ranges of numbers, and which numbers are in lists.
use Rattle.std.proofs.Common.{◌≡◌, ℕ, zero, suc, ◌+◌, ◌-◌, ◌<◌, ◌≤◌, Bool, true, false, cond, ◌&&◌, ◌||◌, eqb, List, [], ◌∷◌, ◌++◌, get_or, Some, refl, sym, ap, ◌∙◌, arith}
use Rattle.std.specs.Prelude.{nat_le, nat_lt}
use Rattle.std.specs.List.{filter, range_with_len, slice_get}
use Rattle.std.proofs.lemmas.Bool.{eqb-true}
use Rattle.std.proofs.lemmas.Bool.Decides.{nat_tests}
use Rattle.std.proofs.lemmas.List.{append_assoc}
use Rattle.std.proofs.lemmas.List.Elements.{filter-append}
use Rattle.gn_mask.specs.Numbers.{numbers, is_among}

range_split : (a n m : ℕ) → range_with_len a n ++ range_with_len (a + n) m ≡ range_with_len a (n + m)
range_split a zero m = let e : a + 0 ≡ a = omega arith in let f : 0 + m ≡ m = omega arith in rw (e, f) refl
range_split a (suc n) m =
    let e : a + suc n ≡ (a + 1) + n = omega arith in
    let f : suc n + m ≡ suc (n + m) = omega arith in
    rw (e, f) (ap (λ ns. a ∷ ns) (range_split (a + 1) n m))

pub numbers_split : (a b c : ℕ) → a ≤ b → b ≤ c → numbers a b ++ numbers b c ≡ numbers a c
numbers_split a b c h g =
    let at : b ≡ a + (b - a) = omega arith in
    let both : c - a ≡ (b - a) + (c - b) = omega arith in
    ap (λ k. numbers a b ++ range_with_len k (c - b)) at ∙ range_split a (b - a) (c - b) ∙ ap (λ n. range_with_len a n) (sym both)

pub numbers_none : (a b : ℕ) → b ≤ a → numbers a b ≡ []
numbers_none a b h = let e : b - a ≡ 0 = omega arith in ap (λ n. range_with_len a n) e

pub numbers_one : (a : ℕ) → numbers a (a + 1) ≡ a ∷ []
numbers_one a = let e : a + 1 - a ≡ 1 = omega arith in ap (λ n. range_with_len a n) e

among_range : (a n x : ℕ) → is_among (range_with_len a n) x ≡ (nat_le a x && nat_lt x (a + n))
among_range a zero x = grind (arith, nat_tests)
among_range a (suc n) x = rw (among_range (a + 1) n x) (grind (arith, nat_tests))

pub among_numbers : (a b x : ℕ) → is_among (numbers a b) x ≡ (nat_le a x && nat_lt x b)
among_numbers a b x = rw (among_range a (b - a) x) (grind (arith, nat_tests))

kept : (p : ℕ → Bool) (x y : ℕ) (a : Bool) (ys : List ℕ) → is_among (filter p ys) x ≡ (a && p x) → is_among (cond (p y) (y ∷ filter p ys) (filter p ys)) x ≡ ((eqb x y || a) && p x)
kept p x y a ys h = by (p y) (eqb x y) refl refl
  where
    by : (t e : Bool) → p y ≡ t → eqb x y ≡ e → is_among (cond t (y ∷ filter p ys) (filter p ys)) x ≡ ((e || a) && p x)
    by true true t e = let px : p x ≡ true = ap p (eqb-true x y e) ∙ t in rw (e, px) refl
    by true false t e = rw (e, h) refl
    by false true t e = let px : p x ≡ false = ap p (eqb-true x y e) ∙ t in rw (h, px) (by_false a)
      where
        by_false : (a : Bool) → (a && false) ≡ false
        by_false true = refl
        by_false false = refl
    by false false t e = h

pub among_filter : (p : ℕ → Bool) (ys : List ℕ) (x : ℕ) → is_among (filter p ys) x ≡ (is_among ys x && p x)
among_filter p [] x = refl
among_filter p (y ∷ ys) x = kept p x y (is_among ys x) ys (among_filter p ys x)

-- one more truth, and what is found then
truths_more : (ts : List Bool) (k : ℕ) (t : Bool) → get_or ts k false ≡ t
    → filter (λ n. get_or ts n false) (numbers 0 (k + 1)) ≡ filter (λ n. get_or ts n false) (numbers 0 k) ++ cond t (numbers k (k + 1)) []
truths_more ts k t h =
    let p = λ (n : ℕ). get_or ts n false in
    let one : k + 1 - k ≡ 1 = omega arith in
    ap (filter p) (sym (numbers_split 0 k (k + 1) (omega arith) (omega arith)))
    ∙ filter-append p (numbers 0 k) (numbers k (k + 1))
    ∙ ap (λ n. filter p (numbers 0 k) ++ filter p (range_with_len k n)) one
    ∙ ap (λ b. filter p (numbers 0 k) ++ cond b (k ∷ []) []) h
    ∙ ap (λ n. filter p (numbers 0 k) ++ cond t (range_with_len k n) []) (sym one)

pub true_more : (ts : List Bool) (k from : ℕ) (front : List ℕ) → from ≤ k → get_or ts k false ≡ true
    → front ++ numbers from k ≡ filter (λ n. get_or ts n false) (numbers 0 k) → front ++ numbers from (k + 1) ≡ filter (λ n. get_or ts n false) (numbers 0 (k + 1))
true_more ts k from front l h e =
    ap (λ ns. front ++ ns) (sym (numbers_split from k (k + 1) l (omega arith))) ∙ sym (append_assoc front (numbers from k) (numbers k (k + 1)))
    ∙ ap (λ ns. ns ++ numbers k (k + 1)) e ∙ sym (truths_more ts k true h)

pub false_more : (ts : List Bool) (k : ℕ) (front : List ℕ) → get_or ts k false ≡ false
    → front ≡ filter (λ n. get_or ts n false) (numbers 0 k) → front ++ numbers (k + 1) (k + 1) ≡ filter (λ n. get_or ts n false) (numbers 0 (k + 1))
false_more ts k front h e =
    ap (λ ns. front ++ ns) (numbers_none (k + 1) (k + 1) (omega arith)) ∙ ap (λ ns. ns ++ []) e ∙ sym (truths_more ts k false h)

-- the number at a position
pub range_at : (a n k : ℕ) (rest : List ℕ) → k < n → slice_get (range_with_len a n ++ rest) k ≡ Some (a + k)
range_at a zero k rest h = absurd (omega arith)
range_at a (suc n) zero rest h = let e : a ≡ a + 0 = omega arith in ap (λ m. Some m) e
range_at a (suc n) (suc k) rest h = let e : (a + 1) + k ≡ a + suc k = omega arith in range_at (a + 1) n k rest (omega arith) ∙ ap (λ m. Some m) e

pub range_past : (a n k : ℕ) (rest : List ℕ) → slice_get (range_with_len a n ++ rest) (n + k) ≡ slice_get rest k
range_past a zero k rest = let e : 0 + k ≡ k = omega arith in ap (λ j. slice_get rest j) e
range_past a (suc n) k rest =
    let e : suc n + k ≡ suc (n + k) = omega arith in
    ap (λ j. slice_get (a ∷ (range_with_len (a + 1) n ++ rest)) j) e ∙ range_past (a + 1) n k rest
