-- Sums over the elements of a group, one element more at a time.
use Rattle.std.proofs.Common.{◌≡◌, ◌⊎◌, inl, inr, ℕ, zero, suc, ◌+◌, ◌*◌, ◌^◌, ◌<◌, ◌≤◌, Bool, true, false, cond, ◌&&◌, ℤ, pos, ◌+ℤ◌, List, [], ◌∷◌, ◌++◌, length, filter, fold, set, get_or, replicate, unsigned_abs, nat_eq, nat_le, nat_lt, refl, sym, ap, subst, ◌∙◌, true≢false, arith}
use Rattle.std.specs.List.{range_with_len}
use Rattle.std.proofs.lemmas.Bool.Decides.{Decides-eqb, leb_tells}
use Rattle.std.proofs.lemmas.List.{get_or-set_same, get_or-set_other, length-set}
use Rattle.std.proofs.lemmas.List.Elements.{filter-append}
use Rattle.std.proofs.lemmas.List.Sums.{fold-append}
use Rattle.gn_value.specs.Arithmetic.{total_by}
use Rattle.gn_plain.specs.Fields.{leading, trailing, total}
use Rattle.gn_interp.specs.Numbers.{number_at}
use Rattle.gn_elsewhere.specs.Sums.{AreSums, sum_of_group, total_at}

-- ---- ranges

range_more : (a n : ℕ) → range_with_len a (suc n) ≡ range_with_len a n ++ (a + n) ∷ []
range_more a zero = ap (λ k. k ∷ []) (let e : a ≡ a + 0 = omega arith in e)
range_more a (suc n) =
    let e : a + 1 + n ≡ a + suc n = omega arith in
    ap (λ l. a ∷ l) (range_more (a + 1) n ∙ ap (λ k. range_with_len (a + 1) n ++ k ∷ []) e)

module _ (p q : ℕ → Bool) where
  none_left : (a n : ℕ) → ((j : ℕ) → a ≤ j → p j ≡ false) → filter (λ j. p j && q j) (range_with_len a n) ≡ []
  none_left a zero fails = refl
  none_left a (suc n) fails =
      let rest = filter (λ j. p j && q j) (range_with_len (a + 1) n) in
      ap (λ b. cond (b && q a) (a ∷ rest) rest) (fails a (omega arith)) ∙ none_left (a + 1) n (λ j above. fails j (omega (arith, above)))

  -- what passes the first test is the beginning of a range
  filter_upto : (a n all : ℕ) → n ≤ all → ((j : ℕ) → j < a + n → p j ≡ true) → ((j : ℕ) → a + n ≤ j → p j ≡ false) → filter (λ j. p j && q j) (range_with_len a all) ≡ filter q (range_with_len a n)
  filter_upto a zero all within holds fails = none_left a all (λ j above. fails j (omega (arith, above)))
  filter_upto a (suc n) zero within holds fails = absurd (omega (arith, within))
  filter_upto a (suc n) (suc all) within holds fails =
      let rest = filter (λ j. p j && q j) (range_with_len (a + 1) all) in
      let here : p a ≡ true = holds a (omega arith) in
      let same : rest ≡ filter q (range_with_len (a + 1) n) = filter_upto (a + 1) n all (omega (arith, within)) (λ j below. holds j (omega (arith, below))) (λ j above. fails j (omega (arith, above))) in
      ap (λ b. cond (b && q a) (a ∷ rest) rest) here ∙ ap (λ l. cond (q a) (a ∷ l) l) same

-- ---- the sums of groups

module _ (numbers : List ℤ) (of : List ℕ) where
  abbrev of_group : ℕ → ℕ → Bool
  of_group g j = nat_eq (get_or of j 0) g

  with_next : (g n : ℕ) → sum_of_group numbers of (n + 1) g ≡ fold (λ sum j. sum +ℤ number_at numbers j) (sum_of_group numbers of n g) (filter (of_group g) (n ∷ []))
  with_next g n =
      let next : n + 1 ≡ suc n = omega arith in
      let add : ℤ → ℕ → ℤ = λ sum j. sum +ℤ number_at numbers j in
      let before = range_with_len 0 n in
      let split : filter (of_group g) (range_with_len 0 (n + 1)) ≡ filter (of_group g) before ++ filter (of_group g) (n ∷ []) =
      ap (λ m. filter (of_group g) (range_with_len 0 m)) next ∙ (ap (filter (of_group g)) (range_more 0 n ∙ ap (λ k. range_with_len 0 n ++ k ∷ []) (let z : 0 + n ≡ n = omega arith in z)) ∙ filter-append (of_group g) before (n ∷ [])) in
      ap (fold add (pos 0)) split ∙ fold-append add (pos 0) (filter (of_group g) before) (filter (of_group g) (n ∷ []))

  sum_with : (g n : ℕ) → nat_eq (get_or of n 0) g ≡ true → sum_of_group numbers of (n + 1) g ≡ sum_of_group numbers of n g +ℤ number_at numbers n
  sum_with g n h = with_next g n ∙ ap (λ b. fold (λ sum j. sum +ℤ number_at numbers j) (sum_of_group numbers of n g) (cond b (n ∷ []) [])) h

  sum_without : (g n : ℕ) → nat_eq (get_or of n 0) g ≡ false → sum_of_group numbers of (n + 1) g ≡ sum_of_group numbers of n g
  sum_without g n h = with_next g n ∙ ap (λ b. fold (λ sum j. sum +ℤ number_at numbers j) (sum_of_group numbers of n g) (cond b (n ∷ []) [])) h

  -- the number of the next element is added to its group
  module _ (n : ℕ) (sums : List ℤ) (x : ℤ) (so_far : AreSums numbers of n sums) (within : get_or of n 0 < length sums) (is : x ≡ number_at sums (get_or of n 0) +ℤ number_at numbers n)
      (small : unsigned_abs x ≤ unsigned_abs (number_at sums (get_or of n 0)) + 2 ^ 63) where
    abbrev group : ℕ
    group = get_or of n 0

    other_at : (g : ℕ) → nat_eq group g ≡ false → number_at (set sums group x) g ≡ number_at sums g
    other_at g h = get_or-set_other sums group g x (pos 0) (λ e. true≢false (sym ((Decides-eqb group g).1 (sym e)) ∙ h))

    each_by : (g : ℕ) (b : Bool) → nat_eq group g ≡ b → g < length sums → number_at (set sums group x) g ≡ sum_of_group numbers of (n + 1) g
    each_by g true h below =
        let here : number_at (set sums group x) group ≡ sum_of_group numbers of (n + 1) group =
        get_or-set_same sums group x (pos 0) within ∙ (is ∙ (ap (λ s. s +ℤ number_at numbers n) (so_far.each group within) ∙ sym (sum_with group n ((Decides-eqb group group).1 refl)))) in
        subst (λ k. number_at (set sums group x) k ≡ sum_of_group numbers of (n + 1) k) ((Decides-eqb group g).0 h) here
    each_by g false h below = other_at g h ∙ (so_far.each g below ∙ sym (sum_without g n h))

    bounded_by : (g : ℕ) (b : Bool) → nat_eq group g ≡ b → unsigned_abs (number_at (set sums group x) g) ≤ 2 ^ 63 * (n + 1)
    bounded_by g true h =
        let old = so_far.bounded group in
        let much : unsigned_abs x ≤ 2 ^ 63 * (n + 1) = omega (arith, small, old) in
        let here : number_at (set sums group x) g ≡ x = ap (number_at (set sums group x)) (sym ((Decides-eqb group g).0 h)) ∙ get_or-set_same sums group x (pos 0) within in
        subst (λ y. unsigned_abs y ≤ 2 ^ 63 * (n + 1)) (sym here) much
    bounded_by g false h =
        let old = so_far.bounded g in
        let much : unsigned_abs (number_at sums g) ≤ 2 ^ 63 * (n + 1) = omega (arith, old) in
        subst (λ y. unsigned_abs y ≤ 2 ^ 63 * (n + 1)) (sym (other_at g h)) much

    pub sums_more : AreSums numbers of (n + 1) (set sums group x)
    sums_more =
        let long = length-set sums group x in
        record {
          each = λ g below. each_by g (nat_eq group g) refl (omega (arith, below, long));
          bounded = λ g. bounded_by g (nat_eq group g) refl;
        }

  zero_at : (n i : ℕ) → number_at (replicate n (pos 0)) i ≡ pos 0
  zero_at zero i = refl
  zero_at (suc n) zero = refl
  zero_at (suc n) (suc i) = zero_at n i

  -- before the first element
  pub sums_none : (n : ℕ) → AreSums numbers of 0 (replicate n (pos 0))
  sums_none n = record { each = λ g below. zero_at n g; bounded = λ g. subst (λ y. unsigned_abs y ≤ 2 ^ 63 * 0) (sym (zero_at n g)) (omega arith) }

  -- ---- the sums of elements

  abbrev same_group_as : ℕ → ℕ → Bool
  same_group_as k j = nat_eq (get_or of j 0) (get_or of k 0)

  upto : (k j : ℕ) → ((nat_le j k ≡ true) × (j ≤ k)) ⊎ ((nat_le j k ≡ false) × (k < j)) → (j < k + 1 → nat_le j k ≡ true) × (k + 1 ≤ j → nat_le j k ≡ false)
  upto k j tells = elim tells [ inl t ↦ ((λ below. t.0), (λ above. absurd (omega (arith, above, t.1)))) | inr t ↦ ((λ below. absurd (omega (arith, below, t.1))), (λ above. t.0)) ]

  under : (k j : ℕ) → ((nat_lt j k ≡ true) × (suc j ≤ k)) ⊎ ((nat_lt j k ≡ false) × (k < suc j)) → (j < k → nat_lt j k ≡ true) × (k ≤ j → nat_lt j k ≡ false)
  under k j tells = elim tells [ inl t ↦ ((λ below. t.0), (λ above. absurd (omega (arith, above, t.1)))) | inr t ↦ ((λ below. absurd (omega (arith, below, t.1))), (λ above. t.0)) ]

  pub leading_is : (k : ℕ) → k < length of → sum_of_group numbers of (k + 1) (get_or of k 0) ≡ total_at leading numbers of k
  leading_is k within =
      sym (ap (total_by (number_at numbers)) (filter_upto (λ j. nat_le j k) (same_group_as k) 0 (k + 1) (length of) (omega (arith, within)) (λ j below. (upto k j (leb_tells j k)).0 (omega (arith, below))) (λ j above. (upto k j (leb_tells j k)).1 (omega (arith, above)))))

  pub trailing_is : (k : ℕ) → k < length of → sum_of_group numbers of k (get_or of k 0) ≡ total_at trailing numbers of k
  trailing_is k within =
      sym (ap (total_by (number_at numbers)) (filter_upto (λ j. nat_lt j k) (same_group_as k) 0 k (length of) (omega (arith, within)) (λ j below. (under k j (leb_tells (suc j) k)).0 (omega (arith, below))) (λ j above. (under k j (leb_tells (suc j) k)).1 (omega (arith, above)))))

  pub total_is : (k : ℕ) → sum_of_group numbers of (length of) (get_or of k 0) ≡ total_at total numbers of k
  total_is k = refl
