-- On which places steps are read.
use Rattle.std.proofs.Common.{◌≡◌, inl, inr, ℕ, ◌+◌, ◌<◌, ◌≤◌, Bool, true, List, [], ◌∷◌, ◌++◌, length, Some, get_or, set, refl, ap, sym, ◌∙◌, subst, arith, get_or-set_other, get_or-set_same}
use Rattle.std.specs.Prelude.{slice_get}
use Rattle.std.proofs.lemmas.List.{length-set}
use Rattle.std.proofs.lemmas.Option.{slice_get_within, slice_get_read}
use Rattle.gn_node_set.proofs.Lists.{has_first, has_second, at_image}
use Rattle.gn_value.specs.declared.value.Place.{Place}
use Rattle.gn_plain.specs.Fields.{Step, accumulate, at_index, on_domain}
use Rattle.gn_field.specs.declared.step.FieldStep.{FieldStep}
use Rattle.gn_field.specs.Steps.{Key, of_constant, of_input, of_apply, of_elsewhere, of_sampled, names, AreBelow, LeadBack, key_of, keys}
use Rattle.gn_field.proofs.Grown.{back_at}
use Rattle.gn_schedule.specs.declared.places.Places.{Places}
use Rattle.gn_schedule.specs.Plans.{AllAre}
use Rattle.gn_schedule.specs.Asked.{has_place, no_places, asked, AsksElsewhere, Asks, AsksFor, AsksAll, IsAsking}
use Rattle.gn_schedule.proofs.Reading.{one_of, below_has, wider}

pub asks_none : (places : Places) (table : List Places) → AsksFor places [] table table
asks_none places table = record { long = refl; asks = λ p h. tt; more = λ p k h. h; others = λ k n. refl }

all_more : (is others : ℕ → Bool) → ((k : ℕ) → is k ≡ true → others k ≡ true) → (ks : List ℕ) → AllAre is ks → AllAre others ks
all_more is others more [] h = tt
all_more is others more (k ∷ ks) h = (more k h.0, all_more is others more ks h.1)

all_push : (is : ℕ → Bool) (ks : List ℕ) (k : ℕ) → AllAre is ks → is k ≡ true → AllAre is (ks ++ k ∷ [])
all_push is [] k h last = (last, tt)
all_push is (j ∷ ks) k h last = (h.0, all_push is ks k h.1 last)

-- one step more is asked for
module _ (places : Places) (args : List ℕ) (before mid : List Places) (a : ℕ) (v : Places) (m : AsksFor places args before mid) (within : a < length mid) (old : (p : Place) → has_place (get_or mid a no_places) p ≡ true → has_place v p ≡ true) (new : (p : Place) → has_place places p ≡ true → has_place v p ≡ true) where
  here : get_or (set mid a v) a no_places ≡ v
  here = get_or-set_same mid a v no_places within

  more_now : (p : Place) (k : ℕ) → asked mid p k ≡ true → asked (set mid a v) p k ≡ true
  more_now p k h = elim (one_of k a) [
    | inl e ↦ ap (λ j. has_place (get_or (set mid a v) j no_places) p) e ∙ (ap (λ s. has_place s p) here ∙ old p (sym (ap (λ j. has_place (get_or mid j no_places) p) e) ∙ h))
    | inr n ↦ ap (λ s. has_place s p) (get_or-set_other mid a k v no_places n) ∙ h
  ]

  pub ask_one : AsksFor places (args ++ a ∷ []) before (set mid a v)
  ask_one = record {
    long = length-set mid a v ∙ m.long;
    asks = λ p h. all_push (asked (set mid a v) p) args a (all_more (asked mid p) (asked (set mid a v) p) (more_now p) args (m.asks p h)) (ap (λ s. has_place s p) here ∙ new p h);
    more = λ p k h. more_now p k (m.more p k h);
    others = λ k n. get_or-set_other mid a k v no_places (λ e. n (has_second args (a ∷ []) k (inl e))) ∙ m.others k (λ i. n (has_first args (a ∷ []) k i));
  }

-- ---- what one step reads

-- all arguments on one place
pub asks_args : (places own : Places) (q : Place) (x : Step) (args : List ℕ) (before after : List Places) → has_place own q ≡ true → ((p : Place) → AllAre (asked after q) args → AsksElsewhere after p x args) → AsksFor own args before after → AsksAll places (of_elsewhere x args) before after
asks_args places own q x args before after is fits m = record { long = m.long; asks = λ p h. fits p (m.asks q is); more = m.more; others = m.others }

-- a value on one place, and the index where the step is read
pub asks_index : (places own : Places) (q : Place) (kind : _) (value : ℕ) (index : List ℕ) (before mid after : List Places) → has_place own q ≡ true → AsksFor own (value ∷ []) before mid → AsksFor places index mid after → AsksAll places (of_elsewhere (at_index kind q) (value ∷ index)) before after
asks_index places own q kind value index before mid after is m n = record {
  long = n.long ∙ m.long;
  asks = λ p h. (n.more q value (m.asks q is).0, n.asks p h);
  more = λ p k h. n.more p k (m.more p k h);
  others = λ k none. n.others k (λ i. none (inr i)) ∙ m.others k (λ i. elim i [ inl e ↦ none (inl e) | inr z ↦ z ]);
}

-- what reads nothing
pub asks_nothing : (places : Places) (key : Key) (table : List Places) → ((p : Place) → Asks table p key) → AsksAll places key table table
asks_nothing places key table none = record { long = refl; asks = λ p h. none p; more = λ p k h. h; others = λ k n. refl }

pub asks_apply : (places : Places) (op : _) (args : List ℕ) (before after : List Places) → AsksFor places args before after → AsksAll places (of_apply op args) before after
asks_apply places op args before after m = record { long = m.long; asks = m.asks; more = m.more; others = m.others }

pub asks_sampled : (places : Places) (path : _) (arg : ℕ) (before after : List Places) → AsksFor places (arg ∷ []) before after → AsksAll places (of_sampled path arg) before after
asks_sampled places path arg before after m = record { long = m.long; asks = m.asks; more = m.more; others = m.others }

-- ---- from the last step back

module _ (before after : List Places) (more : (p : Place) (k : ℕ) → asked before p k ≡ true → asked after p k ≡ true) where
  elsewhere_more : (p : Place) (x : Step) (args : List ℕ) → AsksElsewhere before p x args → AsksElsewhere after p x args
  elsewhere_more p (accumulate kind q part) args h = all_more (asked before q) (asked after q) (more q) args h
  elsewhere_more p (at_index kind q) [] h = tt
  elsewhere_more p (at_index kind q) (value ∷ index) h = (more q value h.0, all_more (asked before p) (asked after p) (more p) index h.1)
  elsewhere_more p (on_domain kind q) args h = all_more (asked before q) (asked after q) (more q) args h

  asks_more : (p : Place) (key : Key) → Asks before p key → Asks after p key
  asks_more p (of_constant v) h = tt
  asks_more p (of_input x) h = tt
  asks_more p (of_apply op args) h = all_more (asked before p) (asked after p) (more p) args h
  asks_more p (of_elsewhere x args) h = elsewhere_more p x args h
  asks_more p (of_sampled path arg) h = (more p arg h.0, tt)

module _ {S : Type 0} where
  names_before : (xs : List (FieldStep S)) (k : ℕ) (x : FieldStep S) → LeadBack (keys xs) → slice_get xs k ≡ Some x → AreBelow k (names (key_of x))
  names_before xs k x back at = back_at 0 k (keys xs) k (key_of x) (omega arith) back (at_image key_of xs k x at)

  ask_step : (xs : List (FieldStep S)) (roots : List ℕ) (place : Place) (k : ℕ) (table after : List Places) (x : FieldStep S) → LeadBack (keys xs) → slice_get xs k ≡ Some x → AsksAll (get_or table k no_places) (key_of x) table after → IsAsking xs roots place (k + 1) table → IsAsking xs roots place k after
  ask_step xs roots place k table after x back at m r =
      let below : AreBelow k (names (key_of x)) = names_before xs k x back at in
      let kept : (j : ℕ) → k ≤ j → get_or after j no_places ≡ get_or table j no_places = λ j le. m.others j (λ i. let b : j < k = below_has k (names (key_of x)) j below i in absurd (omega (arith, b, le))) in
      record {
        long = m.long ∙ r.long;
        roots_asked = all_more (asked table place) (asked after place) (m.more place) roots r.roots_asked;
        each = λ j y p le here is. elim (one_of j k) [
          | inl e ↦ (let q : Some x ≡ Some y = sym at ∙ (ap (slice_get xs) (sym e) ∙ here) in let same : x ≡ y = cc in
              let on : has_place (get_or table k no_places) p ≡ true = ap (λ s. has_place s p) (sym (kept k (omega arith))) ∙ (ap (λ i. has_place (get_or after i no_places) p) (sym e) ∙ is) in
              subst (λ z. Asks after p (key_of z)) same (m.asks p on))
          | inr n ↦ (let behind : k + 1 ≤ j = omega (arith, le, n) in
              let was : asked table p j ≡ true = ap (λ s. has_place s p) (sym (kept j le)) ∙ is in
              asks_more table after m.more p (key_of y) (r.each j y p behind here was))
        ];
      }

  -- ---- in the forms that the code needs

  pub names_within : (xs : List (FieldStep S)) (k n : ℕ) (x : FieldStep S) → LeadBack (keys xs) → k < length xs → x ≡ get_or xs k x → n ≡ length xs → AreBelow n (names (key_of x))
  names_within xs k n x back within is long = wider k n (names (key_of x)) (omega (arith, within, long)) (names_before xs k x back (slice_get_read xs (length xs) k x refl within is))

  pub asked_step : (xs : List (FieldStep S)) (k : ℕ) (table after : List Places) (x : FieldStep S) (places : Places) → LeadBack (keys xs) → k < length xs → x ≡ get_or xs k x → places ≡ get_or table k no_places → AsksAll places (key_of x) table after → (roots : List ℕ) (place : Place) → IsAsking xs roots place (k + 1) table → IsAsking xs roots place k after
  asked_step xs k table after x places back within is these m roots place r =
      ask_step xs roots place k table after x back (slice_get_read xs (length xs) k x refl within is) (subst (λ s. AsksAll s (key_of x) table after) these m) r

  -- only the roots are asked for
  pub asked_roots : (xs : List (FieldStep S)) (roots : List ℕ) (place : Place) (own : Places) (before after : List Places) → has_place own place ≡ true → length before ≡ length xs → AsksFor own roots before after → IsAsking xs roots place (length xs) after
  asked_roots xs roots place own before after is long m = record {
    long = m.long ∙ long;
    roots_asked = m.asks place is;
    each = λ j x p le here h. absurd (omega (arith, le, slice_get_within xs j x here));
  }
