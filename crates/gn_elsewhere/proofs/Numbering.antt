-- Groups by their places in a list of those that were seen.
use Rattle.std.proofs.Common.{◌≡◌, ℕ, ◌+◌, ◌<◌, ◌≤◌, Bool, true, false, not, cond, ℤ, List, [], ◌∷◌, ◌++◌, length, get_or, Some, unwrap_or, nat_eq, true≢false, refl, sym, ap, subst, ◌∙◌, arith}
use Rattle.std.specs.List.{list_any, position_or_len, slice_get}
use Rattle.std.specs.Ordering.{int_eq}
use Rattle.std.proofs.lemmas.Bool.Decides.{Decides-int_eq, Decides-eqb}
use Rattle.std.proofs.lemmas.List.{get_or_append_left, get_or_push, length_push}
use Rattle.std.proofs.lemmas.Option.{slice_get_within}
use Rattle.indexmap.specs.IndexSet.{insert_key}
use Rattle.gn_node_set.proofs.Lists.{same_place}
use Rattle.gn_interp.specs.Numbers.{number_at}
use Rattle.gn_elsewhere.specs.Sums.{AreNumbered}

-- ---- the first place that passes a test, with one more member

module _ {X : Type 0} (p : X → Bool) where
  more_behind : (xs : List X) (x : X) → position_or_len p xs < length xs → position_or_len p (xs ++ x ∷ []) ≡ position_or_len p xs
  more_behind [] x below = absurd (omega (arith, below))
  more_behind (y ∷ ys) x below =
      let later : (b : Bool) → cond (not b) (1 + position_or_len p ys) 0 < length (y ∷ ys) → cond (not b) (1 + position_or_len p (ys ++ x ∷ [])) 0 ≡ cond (not b) (1 + position_or_len p ys) 0 =
      λ b. elim b as (λ b. cond (not b) (1 + position_or_len p ys) 0 < length (y ∷ ys) → cond (not b) (1 + position_or_len p (ys ++ x ∷ [])) 0 ≡ cond (not b) (1 + position_or_len p ys) 0) [
        | true ↦ λ within. refl
        | false ↦ λ within. ap (λ n. 1 + n) (more_behind ys x (omega (arith, within)))
      ] in
      later (p y) below

  -- a member that passes is no earlier than the end
  passes_behind : (xs : List X) (x : X) → p x ≡ true → position_or_len p (xs ++ x ∷ []) ≡ position_or_len p xs
  passes_behind [] x h = ap (λ b. cond (not b) 1 0) h
  passes_behind (y ∷ ys) x h = elim (p y) as (λ b. cond (not b) (1 + position_or_len p (ys ++ x ∷ [])) 0 ≡ cond (not b) (1 + position_or_len p ys) 0) [
    | true ↦ refl
    | false ↦ ap (λ n. 1 + n) (passes_behind ys x h)
  ]

-- ---- groups that were seen

-- a group is at a number, and nowhere before
pub record IsAt (seen : List ℤ) (group : ℤ) (k : ℕ) : Type 0 where
  pub is : slice_get seen k ≡ Some group
  pub first : k ≡ position_or_len (int_eq group) seen

-- the first groups have their places among those seen as numbers
pub record AreSeen (groups seen : List ℤ) (of : List ℕ) (n : ℕ) : Type 0 where
  pub long : length of ≡ n
  pub few : length seen ≤ n
  pub each : (i : ℕ) → i < n → IsAt seen (number_at groups i) (get_or of i 0)

-- with one group more
pushed : (seen : List ℤ) (x g : ℤ) (k : ℕ) → IsAt seen g k → IsAt (seen ++ x ∷ []) g k
pushed seen x g k at =
    record {
      is = same_place seen (x ∷ []) k g at.is;
      first = at.first ∙ sym (more_behind (int_eq g) seen x (subst (λ n. n < length seen) at.first (slice_get_within seen k g at.is)));
    }

inserted : (seen : List ℤ) (x g : ℤ) (k : ℕ) → IsAt seen g k → IsAt (insert_key int_eq seen x) g k
inserted seen x g k at = elim (list_any (int_eq x) seen) as (λ b. IsAt (cond b seen (seen ++ x ∷ [])) g k) [ true ↦ at | false ↦ pushed seen x g k at ]

first_inserted : (seen : List ℤ) (x : ℤ) → position_or_len (int_eq x) (insert_key int_eq seen x) ≡ position_or_len (int_eq x) seen
first_inserted seen x = elim (list_any (int_eq x) seen) as (λ b. position_or_len (int_eq x) (cond b seen (seen ++ x ∷ [])) ≡ position_or_len (int_eq x) seen) [
  | true ↦ refl
  | false ↦ passes_behind (int_eq x) seen x ((Decides-int_eq x x).1 refl)
]

length_inserted : (seen : List ℤ) (x : ℤ) → length (insert_key int_eq seen x) ≤ length seen + 1
length_inserted seen x = elim (list_any (int_eq x) seen) as (λ b. length (cond b seen (seen ++ x ∷ [])) ≤ length seen + 1) [
  | true ↦ omega arith
  | false ↦ let n = length_push seen x in omega (arith, n)
]

-- the number of the next group is added
pub seen_more : (groups seen seen' : List ℤ) (of : List ℕ) (n k : ℕ) (x : ℤ) → AreSeen groups seen of n → x ≡ number_at groups n → seen' ≡ insert_key int_eq seen x → k ≡ position_or_len (int_eq x) seen
    → ((y : ℤ) × (slice_get seen' k ≡ Some y) × (int_eq x y ≡ true)) → AreSeen groups seen' (of ++ k ∷ []) (n + 1)
seen_more groups seen seen' of n k x so_far at keys place stored =
    let count = length_inserted seen x in
    let counts = ap length keys in
    let long = length_push of k in
    let same : x ≡ stored.0 = (Decides-int_eq x stored.0).0 stored.2 in
    let here : IsAt seen' x k = record { is = stored.1 ∙ ap Some (sym same); first = place ∙ (sym (first_inserted seen x) ∙ ap (position_or_len (int_eq x)) (sym keys)) } in
    record {
      long = omega (arith, long, so_far.long);
      few = omega (arith, count, counts, so_far.few);
      each = λ i below. by i (nat_eq i n) refl below here;
    }
  where
    by : (i : ℕ) (b : Bool) → nat_eq i n ≡ b → i < n + 1 → IsAt seen' x k → IsAt seen' (number_at groups i) (get_or (of ++ k ∷ []) i 0)
    by i true h below here =
        let is_n : i ≡ n = (Decides-eqb i n).0 h in
        let number : get_or (of ++ k ∷ []) i 0 ≡ k = get_or_push of k 0 i (so_far.long ∙ sym is_n) in
        let group : x ≡ number_at groups i = at ∙ ap (number_at groups) (sym is_n) in
        subst (λ (g : ℤ). IsAt seen' g (get_or (of ++ k ∷ []) i 0)) group (subst (λ m. IsAt seen' x m) (sym number) here)
    by i false h below here =
        let differ : i ≡ n → ⊥ = λ e. true≢false (sym ((Decides-eqb i n).1 e) ∙ h) in
        let before : i < n = omega (arith, below, differ) in
        let number : get_or (of ++ k ∷ []) i 0 ≡ get_or of i 0 = get_or_append_left of (k ∷ []) 0 i (omega (arith, before, so_far.long)) in
        let old : IsAt seen' (number_at groups i) (get_or of i 0) = subst (λ (ks : List ℤ). IsAt ks (number_at groups i) (get_or of i 0)) (sym keys) (inserted seen x (number_at groups i) (get_or of i 0) (so_far.each i before)) in
        subst (λ m. IsAt seen' (number_at groups i) m) (sym number) old

-- ---- all groups

some_injective : (x y : ℤ) → Some x ≡ Some y → x ≡ y
some_injective x y e = ap (λ o. unwrap_or o x) e

pub are_numbered : (groups seen : List ℤ) (of : List ℕ) (n : ℕ) → n ≡ length groups → AreSeen groups seen of n → AreNumbered groups (length seen) of
are_numbered groups seen of n all so_far =
    record {
      long = so_far.long ∙ all;
      within = λ i below. slice_get_within seen (get_or of i 0) (number_at groups i) (so_far.each i (subst (λ m. i < m) so_far.long below)).is;
      same =
          λ i j below_i below_j.
          let at_i = so_far.each i (subst (λ m. i < m) (sym all) below_i) in
          let at_j = so_far.each j (subst (λ m. j < m) (sym all) below_j) in
          ((λ e. some_injective (number_at groups i) (number_at groups j) (sym at_i.is ∙ (ap (slice_get seen) e ∙ at_j.is))), (λ e. at_i.first ∙ (ap (λ g. position_or_len (int_eq g) seen) e ∙ sym at_j.first)));
    }
