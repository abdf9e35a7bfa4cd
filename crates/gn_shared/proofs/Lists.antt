-- Lookups and counts after a write, a push and a removal.
use Rattle.std.proofs.Common.{◌≡◌, ◌≢◌, ◌≤◌, ◌<◌, ◌⊎◌, inl, inr, ℕ, zero, suc, ◌+◌, ◌-◌, ◌==◌, length, List, [], ◌∷◌, ◌++◌, Bool, true, false, cond, get_or, set, remove, count_by, refl, sym, ◌∙◌, ap, subst, arith}
use Rattle.std.proofs.lemmas.Bool.Decides.{eqb_tells}
use Rattle.std.proofs.lemmas.List.{get_or-set_same, get_or-set_other}
use Rattle.std.proofs.lemmas.List.Edits.{get_or-remove_below, get_or-remove_above, length-remove}
use Rattle.std.proofs.lemmas.List.Sums.{sum_by-remove}

pub by_cases : (P : Bool → Type 0) (a b : ℕ) → (a ≡ b → P true) → (a ≢ b → P false) → P (a == b)
by_cases P a b same other = pick (eqb_tells a b)
  where
    pick : ((a == b) ≡ true) × (a ≡ b) ⊎ ((a == b) ≡ false) × (a ≢ b) → P (a == b)
    pick (inl t) = subst P (sym t.0) (same t.1)
    pick (inr t) = subst P (sym t.0) (other t.1)

-- a or not a, of numbers
pub same_or_not : (Q : Type 0) (a b : ℕ) → (a ≡ b → Q) → (a ≢ b → Q) → Q
same_or_not Q a b = by_cases (λ _. Q) a b

pub at_set : {X : Type 0} (P : X → Type 0) (xs : List X) (i j : ℕ) (y d : X) → i < length xs → (j ≡ i → P y) → (j ≢ i → P (get_or xs j d)) → P (get_or (set xs i y) j d)
at_set P xs i j y d within same other = same_or_not (P (get_or (set xs i y) j d)) j i
    (λ e. subst (λ k. P (get_or (set xs i y) k d)) (sym e) (subst P (sym (get_or-set_same xs i y d within)) (same e)))
    (λ n. subst P (sym (get_or-set_other xs i j y d n)) (other n))

pub at_push : {X : Type 0} (P : X → Type 0) (xs : List X) (j : ℕ) (y d : X) → (j ≡ length xs → P y) → (j ≢ length xs → P (get_or xs j d)) → P (get_or (xs ++ y ∷ []) j d)
at_push P [] zero y d last other = last refl
at_push P [] (suc j) y d last other = other (λ e. absurd (omega (arith, e)))
at_push P (x ∷ xs) zero y d last other = other (λ e. absurd (omega (arith, e)))
at_push P (x ∷ xs) (suc j) y d last other = at_push P xs j y d (λ e. last (omega (arith, e))) (λ n. other (λ e. n (omega (arith, e))))

-- where an element that stays stood before
pub at_remove : {X : Type 0} (P : X → Type 0) (xs : List X) (i j : ℕ) (d : X) → i < length xs → j < length (remove xs i) → ((k : ℕ) → k < length xs → k ≢ i → P (get_or xs k d)) → P (get_or (remove xs i) j d)
at_remove P xs i j d within less each = let n = length-remove xs i within in
    by_cases_below (P (get_or (remove xs i) j d)) j i
    (λ below. subst P (sym (get_or-remove_below xs i d j below within)) (each j (omega (arith, n, less)) (λ e. absurd (omega (arith, e, below)))))
    (λ above. subst P (sym (get_or-remove_above xs i d j above within)) (each (j + 1) (omega (arith, n, less)) (λ e. absurd (omega (arith, e, above)))))
  where
    by_cases_below : (Q : Type 0) (a b : ℕ) → (a < b → Q) → (b ≤ a → Q) → Q
    by_cases_below Q zero zero less more = more (omega arith)
    by_cases_below Q zero (suc b) less more = less (omega arith)
    by_cases_below Q (suc a) zero less more = more (omega arith)
    by_cases_below Q (suc a) (suc b) less more = by_cases_below Q a b (λ l. less (omega (arith, l))) (λ l. more (omega (arith, l)))

-- what a test adds to a count
abbrev pub one_if : Bool → ℕ
one_if b = cond b 1 0

pub never_true : {Q : Type 0} → false ≡ true → Q
never_true e = absurd (cc)

-- an element that counts
pub counts_some : {X : Type 0} (p : X → Bool) (xs : List X) (k : ℕ) (d : X) → k < length xs → p (get_or xs k d) ≡ true → 0 < count_by p xs
counts_some p xs k d less passes =
    let s = sum_by-remove (λ x. one_if (p x)) xs k d less in
    let one : one_if (p (get_or xs k d)) ≡ 1 = ap one_if passes in
    omega (arith, s, one)

-- two elements that count
pub counts_two : {X : Type 0} (p : X → Bool) (xs : List X) (i k : ℕ) (d : X) → i < length xs → k < length xs → i ≢ k → p (get_or xs i d) ≡ true → p (get_or xs k d) ≡ true → 1 < count_by p xs
counts_two p xs i k d less_i less_k apart yes_i yes_k =
    let s = sum_by-remove (λ x. one_if (p x)) xs i d less_i in
    let one : one_if (p (get_or xs i d)) ≡ 1 = ap one_if yes_i in
    let n = length-remove xs i less_i in
    same_or_less (λ below. let some = counts_some p (remove xs i) k d (omega (arith, n, less_i, below)) (ap p (get_or-remove_below xs i d k below less_i) ∙ yes_k) in omega (arith, s, one, some))
    (λ above. let back : (k - 1) + 1 ≡ k = omega (arith, above) in
    let some = counts_some p (remove xs i) (k - 1) d (omega (arith, n, less_k, above)) (ap p (get_or-remove_above xs i d (k - 1) (omega (arith, above)) less_i ∙ ap (λ m. get_or xs m d) back) ∙ yes_k) in omega (arith, s, one, some))
  where
    below_or_above : (a b : ℕ) → a ≢ b → (b < a) ⊎ (a < b)
    below_or_above zero zero n = absurd (n refl)
    below_or_above zero (suc b) n = inr (omega arith)
    below_or_above (suc a) zero n = inl (omega arith)
    below_or_above (suc a) (suc b) n = elim (below_or_above a b (λ e. n (ap suc e))) [ inl l ↦ inl (omega (arith, l)) | inr l ↦ inr (omega (arith, l)) ]

    same_or_less : (k < i → 1 < count_by p xs) → (i < k → 1 < count_by p xs) → 1 < count_by p xs
    same_or_less below above = elim (below_or_above i k apart) [ inl l ↦ below l | inr l ↦ above l ]
