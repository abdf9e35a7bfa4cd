-- Which steps are read, and by which last.
use Rattle.std.proofs.Common.{◌≡◌, ◌≢◌, ◌⊎◌, inl, inr, ℕ, zero, suc, ◌+◌, ◌<◌, ◌≤◌, Bool, true, List, [], ◌∷◌, ◌++◌, length, Some, max, replicate, get_or, set, refl, ap, sym, ◌∙◌, subst, arith, get_or-set_other, get_or-set_same}
use Rattle.std.specs.Prelude.{slice_get}
use Rattle.std.proofs.lemmas.List.{length-set}
use Rattle.std.proofs.lemmas.Option.{slice_get_within, slice_get_read}
use Rattle.gn_node_set.specs.Meanings.{Has}
use Rattle.gn_node_set.proofs.Lists.{has_first, has_second, at_image}
use Rattle.gn_field.specs.declared.step.FieldStep.{FieldStep}
use Rattle.gn_field.specs.Steps.{Key, of_constant, of_input, of_apply, of_elsewhere, of_sampled, names, AreBelow, LeadBack, key_of, keys}
use Rattle.gn_field.proofs.Grown.{back_at}
use Rattle.gn_schedule.specs.Plans.{operands, AllAre, AllReadBy, Marks, IsReading, AreReaders}

-- ---- notes of readers

pub marks_none : (k : ℕ) (readers : List ℕ) → Marks k [] readers readers
marks_none k readers = record { long = refl; marked = tt; more = λ j. omega arith; others = λ j h. refl }

read_more : (k : ℕ) (before after : List ℕ) (args : List ℕ) → ((j : ℕ) → get_or before j 0 ≤ get_or after j 0) → AllReadBy k before args → AllReadBy k after args
read_more k before after [] more h = tt
read_more k before after (a ∷ args) more h = (omega (arith, h.0, more a), read_more k before after args more h.1)

read_push : (k : ℕ) (readers args : List ℕ) (a : ℕ) → AllReadBy k readers args → k ≤ get_or readers a 0 → AllReadBy k readers (args ++ a ∷ [])
read_push k readers [] a h r = (r, tt)
read_push k readers (b ∷ args) a h r = (h.0, read_push k readers args a h.1 r)

pub one_of : (i j : ℕ) → (i ≡ j) ⊎ (i ≢ j)
one_of zero zero = inl refl
one_of zero (suc j) = inr (λ e. omega arith)
one_of (suc i) zero = inr (λ e. omega arith)
one_of (suc i) (suc j) = elim (one_of i j) [ inl e ↦ inl (ap suc e) | inr n ↦ inr (λ e. n (omega arith)) ]

-- one more is noted
pub mark_one : (k : ℕ) (args before mid : List ℕ) (a v : ℕ) → Marks k args before mid → a < length mid → v ≡ max (get_or mid a 0) k → Marks k (args ++ a ∷ []) before (set mid a v)
mark_one k args before mid a v m within is =
    let here : get_or (set mid a v) a 0 ≡ v = get_or-set_same mid a v 0 within in
    let more : (j : ℕ) → get_or mid j 0 ≤ get_or (set mid a v) j 0 = λ j. elim (one_of j a) [
      | inl e ↦ (let f : get_or (set mid a v) j 0 ≡ v = ap (λ n. get_or (set mid a v) n 0) e ∙ here in let g : get_or mid j 0 ≡ get_or mid a 0 = ap (λ n. get_or mid n 0) e in omega arith)
      | inr n ↦ (let f : get_or (set mid a v) j 0 ≡ get_or mid j 0 = get_or-set_other mid a j v 0 n in omega arith)
    ] in
    record {
      long = length-set mid a v ∙ m.long;
      marked = read_push k (set mid a v) args a (read_more k mid (set mid a v) args more m.marked) (omega (arith, here, is));
      more = λ j. omega (arith, m.more j, more j);
      others = λ j h. get_or-set_other mid a j v 0 (λ e. h (has_second args (a ∷ []) j (inl e))) ∙ m.others j (λ i. h (has_first args (a ∷ []) j i));
    }

zero_in : (n k : ℕ) → ◌≡◌ {A = ℕ} (get_or (replicate n 0) k 0) 0
zero_in zero k = refl
zero_in (suc n) zero = refl
zero_in (suc n) (suc k) = zero_in n k

pub zero_at : (n : ℕ) (xs : List ℕ) (k : ℕ) → xs ≡ replicate n 0 → get_or xs k 0 ≡ 0
zero_at n xs k e = ap (λ ys. get_or ys k 0) e ∙ zero_in n k

-- ---- which steps are needed

has_or_not : (ks : List ℕ) (j : ℕ) → Has ks j ⊎ (¬ Has ks j)
has_or_not [] j = inr (λ h. h)
has_or_not (k ∷ ks) j = elim (one_of j k) [
  | inl e ↦ inl (inl e)
  | inr n ↦ elim (has_or_not ks j) [ inl h ↦ inl (inr h) | inr m ↦ inr (λ h. elim h [ inl e ↦ n e | inr i ↦ m i ]) ]
]

pub are_all : (is : ℕ → Bool) (ks : List ℕ) (j : ℕ) → AllAre is ks → Has ks j → is j ≡ true
are_all is [] j all h = absurd h
are_all is (k ∷ ks) j all (inl e) = ap is e ∙ all.0
are_all is (k ∷ ks) j all (inr h) = are_all is ks j all.1 h

-- where those noted are needed, and those that are noted now
marks_only : (k : ℕ) (args before after : List ℕ) (is : ℕ → Bool) → Marks k args before after → ((j : ℕ) → 0 < get_or before j 0 → is j ≡ true) → AllAre is args → (j : ℕ) → 0 < get_or after j 0 → is j ≡ true
marks_only k args before after is m old all j some = elim (has_or_not args j) [
  | inl h ↦ are_all is args j all h
  | inr n ↦ old j (subst (λ v. 0 < v) (m.others j n) some)
]

-- ---- the operands of a step

pub operands_below : (n : ℕ) (k : Key) → AreBelow n (names k) → AreBelow n (operands k)
operands_below n (of_constant v) h = tt
operands_below n (of_input x) h = tt
operands_below n (of_apply op args) h = h
operands_below n (of_elsewhere x args) h = tt
operands_below n (of_sampled path arg) h = h

pub below_has : (n : ℕ) (ks : List ℕ) (k : ℕ) → AreBelow n ks → Has ks k → k < n
below_has n [] k h is = absurd is
below_has n (j ∷ ks) k h (inl e) = subst (λ i. i < n) (sym e) h.0
below_has n (j ∷ ks) k h (inr is) = below_has n ks k h.1 is

pub wider : (n m : ℕ) (ks : List ℕ) → n ≤ m → AreBelow n ks → AreBelow m ks
wider n m [] le h = tt
wider n m (k ∷ ks) le h = (omega (arith, h.0), wider n m ks le h.1)

module _ {S : Type 0} where
  -- a step's operands are before it
  pub operands_before : (xs : List (FieldStep S)) (k : ℕ) (x : FieldStep S) → LeadBack (keys xs) → slice_get xs k ≡ Some x → AreBelow k (operands (key_of x))
  operands_before xs k x back at = operands_below k (key_of x) (back_at 0 k (keys xs) k (key_of x) (omega arith) back (at_image key_of xs k x at))

  -- ---- from the last step back

  pub read_step : (xs : List (FieldStep S)) (roots : List ℕ) (k : ℕ) (readers after : List ℕ) (x : FieldStep S) → LeadBack (keys xs) → slice_get xs k ≡ Some x → 0 < get_or readers k 0 → Marks (k + 1) (operands (key_of x)) readers after → IsReading xs roots (k + 1) readers → IsReading xs roots k after
  read_step xs roots k readers after x back at some_read m r = record {
    long = m.long ∙ r.long;
    roots_read = read_more (length xs + 1) readers after roots m.more r.roots_read;
    only = λ is needed closed. marks_only (k + 1) (operands (key_of x)) readers after is m (r.only is needed closed) (closed k x at (r.only is needed closed k some_read));
    operands_read = λ j y le here some. elim (one_of j k) [
      | inl e ↦ (let same : Some x ≡ Some y = sym at ∙ (ap (slice_get xs) (sym e) ∙ here) in let q : x ≡ y = cc in
          subst (λ n. AllReadBy (n + 1) after (operands (key_of y))) (sym e) (subst (λ z. AllReadBy (k + 1) after (operands (key_of z))) q m.marked))
      | inr n ↦ (let behind : k + 1 ≤ j = omega arith in
          let still : get_or after j 0 ≡ get_or readers j 0 = m.others j (λ i. let b : j < k = below_has k (operands (key_of x)) j (operands_before xs k x back at) i in absurd (omega arith)) in
          read_more (j + 1) readers after (operands (key_of y)) m.more (r.operands_read j y behind here (omega arith)))
    ];
  }

  pub read_skip : (xs : List (FieldStep S)) (roots : List ℕ) (k : ℕ) (readers : List ℕ) → get_or readers k 0 ≡ 0 → IsReading xs roots (k + 1) readers → IsReading xs roots k readers
  read_skip xs roots k readers unread r = record {
    long = r.long;
    roots_read = r.roots_read;
    only = r.only;
    operands_read = λ j y le here some. elim (one_of j k) [
      | inl e ↦ (let q : get_or readers j 0 ≡ 0 = ap (λ n. get_or readers n 0) e ∙ unread in absurd (omega arith))
      | inr n ↦ r.operands_read j y (omega arith) here some
    ];
  }

  -- only the roots are noted
  pub read_roots : (xs : List (FieldStep S)) (roots before after : List ℕ) → length before ≡ length xs → ((j : ℕ) → get_or before j 0 ≡ 0) → Marks (length xs + 1) roots before after → IsReading xs roots (length xs) after
  read_roots xs roots before after long none m = record {
    long = m.long ∙ long;
    roots_read = m.marked;
    only = λ is needed closed. marks_only (length xs + 1) roots before after is m (λ j some. absurd (omega (arith, none j, some))) needed;
    operands_read = λ j x le here some. absurd (omega (arith, slice_get_within xs j x here));
  }

  pub all_read : (xs : List (FieldStep S)) (roots readers : List ℕ) → IsReading xs roots 0 readers → AreReaders xs readers
  all_read xs roots readers r = record { long = r.long; operands = λ k x here some. r.operands_read k x (omega arith) here some }

-- ---- in the forms that the code needs

module _ {S : Type 0} where
  pub operands_within : (xs : List (FieldStep S)) (k n : ℕ) (x : FieldStep S) → LeadBack (keys xs) → k < length xs → x ≡ get_or xs k x → n ≡ length xs → AreBelow n (operands (key_of x))
  operands_within xs k n x back within is long = wider k n (operands (key_of x)) (omega (arith, within, long)) (operands_before xs k x back (slice_get_read xs (length xs) k x refl within is))

  pub marked_step : (xs : List (FieldStep S)) (k : ℕ) (readers after : List ℕ) (x : FieldStep S) → LeadBack (keys xs) → k < length xs → x ≡ get_or xs k x → 0 < get_or readers k 0 → Marks (k + 1) (operands (key_of x)) readers after → (roots : List ℕ) → IsReading xs roots (k + 1) readers → IsReading xs roots k after
  marked_step xs k readers after x back within is some m roots r = read_step xs roots k readers after x back (slice_get_read xs (length xs) k x refl within is) some m r
