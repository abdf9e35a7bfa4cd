-- The numbers of edges, and what stays of them when an edge is added.
use Rattle.std.proofs.Common.{◌≡◌, ℕ, zero, suc, ◌+◌, ◌-◌, ◌<◌, ◌≤◌, ◌^◌, Bool, true, false, ◌||◌, List, [], ◌∷◌, ◌++◌, length, get_or, set, Option, Some, None, refl, sym, ap, ◌∙◌, subst, arith, ⊎_elim, inl, inr}
use Rattle.std.specs.Prelude.{◌⊎◌, nat_lt}
use Rattle.std.specs.List.{list_any, position_or_len}
use Rattle.std.specs.BTreeMap.{BTreeMap, get, Updates}
use Rattle.std.specs.Map.{lookup}
use Rattle.std.specs.BTreeMap.{is_at}
use Rattle.std.specs.declared.cmp.Ordering.{Ordering}
use Rattle.std.specs.declared.cmp.Ordering.TheVariants.{Less, Equal, Greater}
use Rattle.std.specs.Ordering.{is_eq, nat_cmp}
use Rattle.std.proofs.lemmas.Map.Lookups.{exact_unsigned, exact_pairs}
use Rattle.std.proofs.lemmas.List.{get_or_append_left, get_or_push, get_or-set_same, get_or-set_other, get_or_past, length_push}
use Rattle.std.proofs.lemmas.List.Sums.{position_or_len_is}
use Rattle.std.proofs.lemmas.Bool.{both_ways, cases_eq, cases_Bool, ltb-true, le-ltb, lt-ltb, ltb-false}
use Rattle.gn_edges.specs.Kept.{is_pair, pair_cmp, with_pair, walk, found, number_of, IsKept}
use Rattle.gn_edges.specs.declared.place.Place.{Place}
use Rattle.gn_edges.specs.declared.place.Place.TheVariants.{At, Nowhere, Beyond}
use Rattle.gn_edges.proofs.Walks.{pair_decides, walk_at, walk_on, walk_pushed, walk_ends, walk_fewer, walk_sound}

-- ---- lists of pairs

any_at : (p : ℕ × ℕ → Bool) (xs : List (ℕ × ℕ)) (k : ℕ) → k < length xs → p (get_or xs k (0, 0)) ≡ true → list_any p xs ≡ true
any_at p [] k h t = absurd (omega arith)
any_at p (x ∷ xs) zero h t = rw t refl
any_at p (x ∷ xs) (suc k) h t = by (p x) (any_at p xs k (omega arith) t)
  where
    by : (b : Bool) → list_any p xs ≡ true → (b || list_any p xs) ≡ true
    by true e = refl
    by false e = e

any_none : (p : ℕ × ℕ → Bool) (xs : List (ℕ × ℕ)) → ((k : ℕ) → k < length xs → p (get_or xs k (0, 0)) ≡ false) → list_any p xs ≡ false
any_none p [] h = refl
any_none p (x ∷ xs) h =
    let first : p x ≡ false = h 0 (omega arith) in
    rw first (any_none p xs (λ k l. h (suc k) (omega arith)))

differ : (e x : ℕ × ℕ) → (x ≡ e → ⊥) → is_pair e x ≡ false
differ e x apart = ⊎_elim (λ t. absurd (apart (sym ((pair_decides e x).0 t)))) (λ f. f) (cases_Bool (is_pair e x))

-- ---- what is found

some_at : (few : Bool) (place : Place) (o : Option ℕ) (k : ℕ) → found few place o ≡ Some k → (place ≡ At k) ⊎ (((place ≡ Nowhere) × (few ≡ false) × (o ≡ Some k)) ⊎ ((place ≡ Beyond) × (o ≡ Some k)))
some_at few (At j) o k h = let same : j ≡ k = cc in inl (ap (λ n. At n) same)
some_at true Nowhere o k h = cc
some_at false Nowhere o k h = inr (inl (refl, refl, h))
some_at few Beyond o k h = inr (inr (refl, h))

pub number_sound : (pairs : List (ℕ × ℕ)) (first next : List ℕ) (crowd : BTreeMap (ℕ × ℕ) ℕ) (e : ℕ × ℕ) (k : ℕ) → IsKept pairs first next crowd → number_of pairs first next crowd e ≡ Some k → (k < length pairs) × (get_or pairs k (0, 0) ≡ e)
number_sound pairs first next crowd e k kept h =
    ⊎_elim (λ at. walk_sound pairs next e 8 (get_or first e.0 0) k kept.nexts (kept.firsts e.0) at)
    (⊎_elim (λ o. kept.crowded e k o.2) (λ o. kept.crowded e k o.1))
    (some_at (nat_lt (length pairs) (2 ^ 32 - 1)) (walk pairs next e 8 (get_or first e.0 0)) (get pair_cmp crowd e) k h)

some_same : (j k : ℕ) → Some j ≡ Some k → j ≡ k
some_same j k h = cc

none_some : (k : ℕ) (o : Option ℕ) → o ≡ None → o ≡ Some k → ⊥
none_some k o h g = cc

pub at_number : (pairs : List (ℕ × ℕ)) (first next : List ℕ) (crowd : BTreeMap (ℕ × ℕ) ℕ) (e : ℕ × ℕ) (k : ℕ) → IsKept pairs first next crowd → number_of pairs first next crowd e ≡ Some k → (with_pair pairs e ≡ pairs) × (k ≡ position_or_len (is_pair e) pairs)
at_number pairs first next crowd e k kept h =
    let there = number_sound pairs first next crowd e k kept h in
    let passes : is_pair e (get_or pairs k (0, 0)) ≡ true = (pair_decides e (get_or pairs k (0, 0))).1 (sym there.1) in
    let number : List ℕ → Type 0 = λ x. ℕ in
    let before : (j : ℕ) → j < k → is_pair e (get_or pairs j (0, 0)) ≡ false =
    λ j below. differ e (get_or pairs j (0, 0)) (λ same.
    let earlier : number_of pairs first next crowd e ≡ Some j = subst (λ (x : ℕ × ℕ). number_of pairs first next crowd x ≡ Some j) same (kept.each j (omega (arith, there.0))) in
    let equal : j ≡ k = some_same j k (sym earlier ∙ h) in
    omega arith) in
    let any : list_any (is_pair e) pairs ≡ true = any_at (is_pair e) pairs k there.0 passes in
    (rw any refl, sym (position_or_len_is (is_pair e) pairs k (0, 0) (omega (arith, there.0)) before (λ l. passes)))

pub no_number : (pairs : List (ℕ × ℕ)) (first next : List ℕ) (crowd : BTreeMap (ℕ × ℕ) ℕ) (e : ℕ × ℕ) → IsKept pairs first next crowd → number_of pairs first next crowd e ≡ None → (with_pair pairs e ≡ pairs ++ e ∷ []) × (length pairs ≡ position_or_len (is_pair e) pairs)
no_number pairs first next crowd e kept h =
    let fails : (j : ℕ) → j < length pairs → is_pair e (get_or pairs j (0, 0)) ≡ false =
    λ j below. differ e (get_or pairs j (0, 0)) (λ same.
    none_some j (number_of pairs first next crowd e) h (subst (λ (x : ℕ × ℕ). number_of pairs first next crowd x ≡ Some j) same (kept.each j below))) in
    let any : list_any (is_pair e) pairs ≡ false = any_none (is_pair e) pairs fails in
    (rw any refl, sym (position_or_len_is (is_pair e) pairs (length pairs) (0, 0) (omega arith) fails (λ l. absurd (omega (arith, l)))))

-- ---- what is kept

pub kept_first : (pairs : List (ℕ × ℕ)) (first first' next : List ℕ) (crowd : BTreeMap (ℕ × ℕ) ℕ) → ((v : ℕ) → get_or first' v 0 ≡ get_or first v 0) → IsKept pairs first next crowd → IsKept pairs first' next crowd
kept_first pairs first first' next crowd same kept = record {
  paired = kept.paired;
  firsts = λ v. rw (same v) (kept.firsts v);
  nexts = kept.nexts;
  each = λ k below. rw (same (get_or pairs k (0, 0)).0) (kept.each k below);
  crowded = kept.crowded;
}

nexts_pushed : (next : List ℕ) (n x : ℕ) → length next ≡ n → x ≤ n → ((k : ℕ) → get_or next k 0 ≤ n) → (k : ℕ) → get_or (next ++ x ∷ []) k 0 ≤ n + 1
nexts_pushed next n x paired small nexts k =
    ⊎_elim (λ (h : k < length next). rw (get_or_append_left next (x ∷ []) 0 k h) (omega (arith, nexts k)))
    (λ (h : length next ≤ k). ⊎_elim (λ e. rw (get_or_push next x 0 k e) (omega arith))
    (λ ne. rw (get_or_past (next ++ x ∷ []) k 0 (omega (arith, length_push next x))) (omega arith)) (cases_eq (length next) k))
    (below k (length next))
  where
    below : (a b : ℕ) → (a < b) ⊎ (b ≤ a)
    below a b = ⊎_elim (λ t. inl (ltb-true a b t)) (λ f. inr (ltb-false a b f)) (cases_Bool (nat_lt a b))

-- few pairs, and what the map has
abbrev is_few : List (ℕ × ℕ) → Bool
is_few pairs = nat_lt (length pairs) (2 ^ 32 - 1)

same_found : (few few' : Bool) (place place' : Place) (o o' : Option ℕ) (k : ℕ) → found few place o ≡ Some k → (few ≡ false → few' ≡ false) → place' ≡ place → o' ≡ o → found few' place' o' ≡ Some k
same_found few few' (At j) place' o o' k h f p q = rw p h
same_found true few' Nowhere place' o o' k h f p q = cc
same_found false few' Nowhere place' o o' k h f p q = rw (p, f refl, q) h
same_found few few' Beyond place' o o' k h f p q = rw (p, q) h

pub few_from : (n : ℕ) → n < 2 ^ 32 - 1 → nat_lt n (2 ^ 32 - 1) ≡ true
few_from n h = lt-ltb n (2 ^ 32 - 1) h

not_few_more : (n : ℕ) → nat_lt n (2 ^ 32 - 1) ≡ false → nat_lt (n + 1) (2 ^ 32 - 1) ≡ false
not_few_more n h = le-ltb (n + 1) (2 ^ 32 - 1) (omega (arith, ltb-false n (2 ^ 32 - 1) h))

cases_below : (k n : ℕ) → k < n + 1 → (k < n) ⊎ (k ≡ n)
cases_below k n h = ⊎_elim (λ e. inr e) (λ ne. let less : k < n = omega arith in inl less) (cases_eq k n)

-- an edge that is new, at the front of a list that has an end
module _ (pairs : List (ℕ × ℕ)) (first next : List ℕ) (crowd : BTreeMap (ℕ × ℕ) ℕ) (e : ℕ × ℕ) (kept : IsKept pairs first next crowd) (ends : walk pairs next e 8 (get_or first e.0 0) ≡ Nowhere) (few : is_few pairs ≡ true) where
  pub new_listed : number_of pairs first next crowd e ≡ None
  new_listed = rw (ends, few) refl

  listed_apart : (k : ℕ) → k < length pairs → get_or pairs k (0, 0) ≡ e → ⊥
  listed_apart k below same = none_some k (number_of pairs first next crowd e) new_listed (subst (λ (x : ℕ × ℕ). number_of pairs first next crowd x ≡ Some k) same (kept.each k below))

  -- the list of the edge's lesser vertex, from its new front on
  walk_front : (q : ℕ × ℕ) → (e ≡ q → ⊥) → walk (pairs ++ e ∷ []) (next ++ get_or first e.0 0 ∷ []) q 8 (length pairs + 1) ≡ walk pairs next q 7 (get_or first e.0 0)
  walk_front q apart =
      let here : get_or (pairs ++ e ∷ []) (length pairs) (0, 0) ≡ e = get_or_push pairs e (0, 0) (length pairs) refl in
      let test : is_pair q (get_or (pairs ++ e ∷ []) (length pairs) (0, 0)) ≡ false = rw here (differ q e apart) in
      let link : length pairs + 1 ≡ suc (length pairs) = omega arith in
      walk_on (pairs ++ e ∷ []) (next ++ get_or first e.0 0 ∷ []) q 8 (length pairs + 1) (length pairs) 7 refl link test
      ∙ ap (λ l. walk (pairs ++ e ∷ []) (next ++ get_or first e.0 0 ∷ []) q 7 l) (get_or_push next (get_or first e.0 0) 0 (length pairs) kept.paired)
      ∙ walk_pushed pairs next q e (get_or first e.0 0) 7 (get_or first e.0 0) kept.paired kept.nexts (kept.firsts e.0)

  module _ (room : e.0 < length first) where
    link_same : (v : ℕ) → v ≡ e.0 → get_or (set first e.0 (length pairs + 1)) v 0 ≡ length pairs + 1
    link_same v same = rw same (get_or-set_same first e.0 (length pairs + 1) 0 room)

    place_at : (q : ℕ × ℕ) (k : ℕ) → (e ≡ q → ⊥) → walk pairs next q 8 (get_or first q.0 0) ≡ At k
        → walk (pairs ++ e ∷ []) (next ++ get_or first e.0 0 ∷ []) q 8 (get_or (set first e.0 (length pairs + 1)) q.0 0) ≡ At k
    place_at q k apart at =
        ⊎_elim (λ same. rw (link_same q.0 same) (walk_front q apart ∙ walk_fewer pairs next e q 7 (get_or first e.0 0) k ends (subst (λ (v : ℕ). walk pairs next q 8 (get_or first v 0) ≡ At k) same at)))
        (λ other. rw (get_or-set_other first e.0 q.0 (length pairs + 1) 0 other) (walk_pushed pairs next q e (get_or first e.0 0) 8 (get_or first q.0 0) kept.paired kept.nexts (kept.firsts q.0) ∙ at))
        (cases_eq q.0 e.0)

    place_beyond : (q : ℕ × ℕ) → walk pairs next q 8 (get_or first q.0 0) ≡ Beyond
        → walk (pairs ++ e ∷ []) (next ++ get_or first e.0 0 ∷ []) q 8 (get_or (set first e.0 (length pairs + 1)) q.0 0) ≡ Beyond
    place_beyond q beyond =
        ⊎_elim (λ same. absurd (walk_ends pairs next e q 8 (get_or first e.0 0) ends (subst (λ (v : ℕ). walk pairs next q 8 (get_or first v 0) ≡ Beyond) same beyond)))
        (λ other. rw (get_or-set_other first e.0 q.0 (length pairs + 1) 0 other) (walk_pushed pairs next q e (get_or first e.0 0) 8 (get_or first q.0 0) kept.paired kept.nexts (kept.firsts q.0) ∙ beyond))
        (cases_eq q.0 e.0)

    old_listed : (q : ℕ × ℕ) (k : ℕ) → (e ≡ q → ⊥) → number_of pairs first next crowd q ≡ Some k
        → number_of (pairs ++ e ∷ []) (set first e.0 (length pairs + 1)) (next ++ get_or first e.0 0 ∷ []) crowd q ≡ Some k
    old_listed q k apart h =
        ⊎_elim (λ at. rw (place_at q k apart at) refl)
        (⊎_elim (λ o. absurd (both few o.1)) (λ o. rw (place_beyond q o.0) o.1))
        (some_at (is_few pairs) (walk pairs next q 8 (get_or first q.0 0)) (get pair_cmp crowd q) k h)
      where
        both : {b : Bool} → b ≡ true → b ≡ false → ⊥
        both p q = cc

    new_number : number_of (pairs ++ e ∷ []) (set first e.0 (length pairs + 1)) (next ++ get_or first e.0 0 ∷ []) crowd e ≡ Some (length pairs)
    new_number =
        let here : get_or (pairs ++ e ∷ []) (length pairs) (0, 0) ≡ e = get_or_push pairs e (0, 0) (length pairs) refl in
        let test : is_pair e (get_or (pairs ++ e ∷ []) (length pairs) (0, 0)) ≡ true = rw here ((pair_decides e e).1 refl) in
        let link : get_or (set first e.0 (length pairs + 1)) e.0 0 ≡ suc (length pairs) = omega (arith, link_same e.0 refl) in
        let place : walk (pairs ++ e ∷ []) (next ++ get_or first e.0 0 ∷ []) e 8 (get_or (set first e.0 (length pairs + 1)) e.0 0) ≡ At (length pairs) =
        walk_at (pairs ++ e ∷ []) (next ++ get_or first e.0 0 ∷ []) e 8 (get_or (set first e.0 (length pairs + 1)) e.0 0) (length pairs) (omega arith) link test in
        rw place refl

    pub kept_listed : IsKept (pairs ++ e ∷ []) (set first e.0 (length pairs + 1)) (next ++ get_or first e.0 0 ∷ []) crowd
    kept_listed = record {
      paired = omega (arith, length_push next (get_or first e.0 0), length_push pairs e, kept.paired);
      firsts = λ v.
          ⊎_elim (λ same. rw (link_same v same) (omega (arith, length_push pairs e)))
          (λ other. rw (get_or-set_other first e.0 v (length pairs + 1) 0 other) (omega (arith, length_push pairs e, kept.firsts v))) (cases_eq v e.0);
      nexts = λ k. omega (arith, length_push pairs e, nexts_pushed next (length pairs) (get_or first e.0 0) kept.paired (kept.firsts e.0) kept.nexts k);
      each = λ k below.
          ⊎_elim (λ old.
          let q = get_or_append_left pairs (e ∷ []) (0, 0) k old in
          subst (λ (x : ℕ × ℕ). number_of (pairs ++ e ∷ []) (set first e.0 (length pairs + 1)) (next ++ get_or first e.0 0 ∷ []) crowd x ≡ Some k) (sym q)
          (old_listed (get_or pairs k (0, 0)) k (λ same. listed_apart k old (sym same)) (kept.each k old)))
          (λ new.
          let q : get_or (pairs ++ e ∷ []) k (0, 0) ≡ e = get_or_push pairs e (0, 0) k (sym new) in
          subst (λ (x : ℕ × ℕ). number_of (pairs ++ e ∷ []) (set first e.0 (length pairs + 1)) (next ++ get_or first e.0 0 ∷ []) crowd x ≡ Some k) (sym q) (new_number ∙ ap (λ n. Some n) (sym new)))
          (cases_below k (length pairs) (omega (arith, length_push pairs e)));
      crowded = λ q k h.
          let old = kept.crowded q k h in
          (omega (arith, length_push pairs e, old.0), get_or_append_left pairs (e ∷ []) (0, 0) k old.0 ∙ old.1);
    }

-- ---- the map

pub kept_map : (pairs : List (ℕ × ℕ)) (first next : List ℕ) (crowd crowd' : BTreeMap (ℕ × ℕ) ℕ) → crowd'.entries ≡ crowd.entries → IsKept pairs first next crowd → IsKept pairs first next crowd'
kept_map pairs first next crowd crowd' same kept =
    let gets : (q : ℕ × ℕ) → get pair_cmp crowd' q ≡ get pair_cmp crowd q = λ q. ap (λ es. lookup (is_at (pair_cmp q)) es) same in
    record {
      paired = kept.paired;
      firsts = kept.firsts;
      nexts = kept.nexts;
      each = λ k below.
          ap (λ o. found (is_few pairs) (walk pairs next (get_or pairs k (0, 0)) 8 (get_or first (get_or pairs k (0, 0)).0 0)) o) (gets (get_or pairs k (0, 0)))
          ∙ kept.each k below;
      crowded = λ q k h. kept.crowded q k (sym (gets q) ∙ h);
    }

equal_from : (o : Ordering) → is_eq o ≡ true → o ≡ Equal
equal_from Less h = cc
equal_from Equal h = refl
equal_from Greater h = cc

-- keys that differ are apart in the map
apart_at : (e q : ℕ × ℕ) → (e ≡ q → ⊥) → is_at (pair_cmp e) q ≡ false
apart_at e q apart =
    ⊎_elim (λ t. absurd (apart (exact_pairs nat_cmp nat_cmp exact_unsigned exact_unsigned e q (equal_from (pair_cmp e q) t)))) (λ f. f) (cases_Bool (is_eq (pair_cmp e q)))

-- an edge that is new, in the map
module _ (pairs : List (ℕ × ℕ)) (first next : List ℕ) (crowd crowd' : BTreeMap (ℕ × ℕ) ℕ) (e : ℕ × ℕ) (kept : IsKept pairs first next crowd) (unlisted : (o : Option ℕ) → found (is_few pairs) (walk pairs next e 8 (get_or first e.0 0)) o ≡ o) (absent : get pair_cmp crowd e ≡ None) where
  pub new_crowded : number_of pairs first next crowd e ≡ None
  new_crowded = unlisted (get pair_cmp crowd e) ∙ absent

  crowded_apart : (k : ℕ) → k < length pairs → get_or pairs k (0, 0) ≡ e → ⊥
  crowded_apart k below same = none_some k (number_of pairs first next crowd e) new_crowded (subst (λ (x : ℕ × ℕ). number_of pairs first next crowd x ≡ Some k) same (kept.each k below))

  few_stays : is_few pairs ≡ false → is_few (pairs ++ e ∷ []) ≡ false
  few_stays h = rw (length_push pairs e) (not_few_more (length pairs) h)

  walk_same : (q : ℕ × ℕ) → walk (pairs ++ e ∷ []) (next ++ 0 ∷ []) q 8 (get_or first q.0 0) ≡ walk pairs next q 8 (get_or first q.0 0)
  walk_same q = walk_pushed pairs next q e 0 8 (get_or first q.0 0) kept.paired kept.nexts (kept.firsts q.0)

  module _ (updates : Updates pair_cmp crowd crowd' e (Some (length pairs))) where
    old_crowded : (q : ℕ × ℕ) (k : ℕ) → (e ≡ q → ⊥) → number_of pairs first next crowd q ≡ Some k → number_of (pairs ++ e ∷ []) first (next ++ 0 ∷ []) crowd' q ≡ Some k
    old_crowded q k apart h =
        same_found (is_few pairs) (is_few (pairs ++ e ∷ [])) (walk pairs next q 8 (get_or first q.0 0)) (walk (pairs ++ e ∷ []) (next ++ 0 ∷ []) q 8 (get_or first q.0 0)) (get pair_cmp crowd q) (get pair_cmp crowd' q) k
        h few_stays (walk_same q) (updates.2 q (apart_at e q apart))

    crowd_number : number_of (pairs ++ e ∷ []) first (next ++ 0 ∷ []) crowd' e ≡ Some (length pairs)
    crowd_number =
        same_found (is_few pairs) (is_few (pairs ++ e ∷ [])) (walk pairs next e 8 (get_or first e.0 0)) (walk (pairs ++ e ∷ []) (next ++ 0 ∷ []) e 8 (get_or first e.0 0)) (Some (length pairs)) (get pair_cmp crowd' e) (length pairs)
        (unlisted (Some (length pairs))) few_stays (walk_same e) updates.1

    pub kept_crowded : IsKept (pairs ++ e ∷ []) first (next ++ 0 ∷ []) crowd'
    kept_crowded = record {
      paired = omega (arith, length_push next 0, length_push pairs e, kept.paired);
      firsts = λ v. omega (arith, length_push pairs e, kept.firsts v);
      nexts = λ k. omega (arith, length_push pairs e, nexts_pushed next (length pairs) 0 kept.paired (omega arith) kept.nexts k);
      each = λ k below.
          ⊎_elim (λ old.
          let q = get_or_append_left pairs (e ∷ []) (0, 0) k old in
          subst (λ (x : ℕ × ℕ). number_of (pairs ++ e ∷ []) first (next ++ 0 ∷ []) crowd' x ≡ Some k) (sym q)
          (old_crowded (get_or pairs k (0, 0)) k (λ same. crowded_apart k old (sym same)) (kept.each k old)))
          (λ new.
          let q : get_or (pairs ++ e ∷ []) k (0, 0) ≡ e = get_or_push pairs e (0, 0) k (sym new) in
          subst (λ (x : ℕ × ℕ). number_of (pairs ++ e ∷ []) first (next ++ 0 ∷ []) crowd' x ≡ Some k) (sym q) (crowd_number ∙ ap (λ n. Some n) (sym new)))
          (cases_below k (length pairs) (omega (arith, length_push pairs e)));
      crowded = λ q k h.
          ⊎_elim (λ t.
          let same : e ≡ q = (pair_decides e q).0 t in
          let number : length pairs ≡ k = some_same (length pairs) k (sym updates.1 ∙ subst (λ (x : ℕ × ℕ). get pair_cmp crowd' x ≡ Some k) (sym same) h) in
          (omega (arith, length_push pairs e, number), get_or_push pairs e (0, 0) k number ∙ same))
          (λ f.
          let other : e ≡ q → ⊥ = λ same. both_ways (is_pair e q) f ((pair_decides e q).1 same) in
          let old = kept.crowded q k (sym (updates.2 q (apart_at e q other)) ∙ h) in
          (omega (arith, length_push pairs e, old.0), get_or_append_left pairs (e ∷ []) (0, 0) k old.0 ∙ old.1))
          (cases_Bool (is_pair e q));
    }
