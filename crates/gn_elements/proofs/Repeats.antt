-- Rows in which no vertex is there twice.
use Rattle.std.proofs.Common.{◌≡◌, ℕ, Bool, true, false, not, ◌&&◌, ◌||◌, ◌==◌, cond, eqb, suc, ◌+◌, ◌<◌, length, get_or, take, drop, List, [], ◌∷◌, ◌++◌, refl, sym, ap, ◌∙◌, drop-cons, arith}
use Rattle.std.specs.List.{list_any}
use Rattle.std.specs.Ordering.{is_eq, nat_cmp}
use Rattle.std.proofs.lemmas.List.{take_more, take-append-drop}
use Rattle.std.proofs.lemmas.List.Folds.{list_any-append}
use Rattle.std.proofs.lemmas.Bool.Decides.{nat_tests}
use Rattle.gn_elements.specs.Read.{all_differ}

both_true : (a b : Bool) → (not a && b) ≡ true → (a ≡ false) × (b ≡ true)
both_true true b h = cc
both_true false b h = (refl, h)

both_false : (a b : Bool) → (a || b) ≡ false → (a ≡ false) × (b ≡ false)
both_false true b h = cc
both_false false b h = (refl, h)

either : (a b : Bool) → (a || b) ≡ true → b ≡ false → a ≡ true
either true b h k = refl
either false b h k = cc

-- one vertex more that is none of the others
pub all_differ-more : (ks : List ℕ) (v : ℕ) → all_differ ks ≡ true → list_any (eqb v) ks ≡ false → all_differ (ks ++ v ∷ []) ≡ true
all_differ-more [] v h k = refl
all_differ-more (u ∷ ks) v h k =
    let old = both_true (list_any (λ x. x == u) ks) (all_differ ks) h in
    let new = both_false (eqb v u) (list_any (eqb v) ks) k in
    let rest = all_differ-more ks v old.1 new.1 in
    let e = list_any-append (λ x. x == u) ks (v ∷ []) in
    rw (e, old.0, new.0, rest) refl

again-at : (u v : ℕ) (ks vs : List ℕ) (b : Bool) → eqb v u ≡ b → (b || list_any (eqb v) ks) ≡ true → (list_any (eqb v) ks ≡ true → all_differ (ks ++ v ∷ vs) ≡ false) → (not (list_any (λ x. x == u) (ks ++ v ∷ vs)) && all_differ (ks ++ v ∷ vs)) ≡ false
again-at u v ks vs true e h rest = rw (list_any-append (λ x. x == u) ks (v ∷ vs), e) (found (list_any (λ x. x == u) ks) (all_differ (ks ++ v ∷ vs)))
  where
    found : (a b : Bool) → (not (a || true) && b) ≡ false
    found true b = refl
    found false b = refl
again-at u v ks vs false e h rest = rw (rest h) (none (not (list_any (λ x. x == u) (ks ++ v ∷ vs))))
  where
    none : (a : Bool) → (a && false) ≡ false
    none true = refl
    none false = refl

-- a vertex that is one of those before it
pub all_differ-again : (ks : List ℕ) (v : ℕ) (vs : List ℕ) → list_any (eqb v) ks ≡ true → all_differ (ks ++ v ∷ vs) ≡ false
all_differ-again [] v vs h = cc
all_differ-again (u ∷ ks) v vs h = again-at u v ks vs (eqb v u) refl h (all_differ-again ks v vs)

either_last : (a b c : Bool) → b ≡ c → cond b true a ≡ (a || (c || false))
either_last true true c e = refl
either_last true false c e = refl
either_last false true c e = rw (← e) refl
either_last false false c e = rw (← e) refl

is_at_same : (v q : ℕ) → is_eq (nat_cmp v q) ≡ eqb q v
is_at_same v q = grind (arith, nat_tests)

-- a vertex behind the first i
module _ (vs : List ℕ) (i : ℕ) (here : i < length vs) where
  whole : take i vs ++ (get_or vs i 0 ∷ drop (suc i) vs) ≡ vs
  whole = ap (λ r. take i vs ++ r) (sym (drop-cons vs i 0 here)) ∙ take-append-drop i vs

  pub stands_twice : list_any (eqb (get_or vs i 0)) (take i vs) ≡ true → all_differ vs ≡ false
  stands_twice h = ap all_differ (sym whole) ∙ all_differ-again (take i vs) (get_or vs i 0) (drop (suc i) vs) h

  pub one_vertex_more : all_differ (take i vs) ≡ true → list_any (eqb (get_or vs i 0)) (take i vs) ≡ false → all_differ (take (i + 1) vs) ≡ true
  one_vertex_more d h = rw (take_more vs i 0 here) (all_differ-more (take i vs) (get_or vs i 0) d h)

  pub one_key_more : (q : ℕ) (before after : Bool) → after ≡ cond (is_eq (nat_cmp (get_or vs i 0) q)) true before → before ≡ list_any (eqb q) (take i vs) → after ≡ list_any (eqb q) (take (i + 1) vs)
  one_key_more q before after e h =
      rw (take_more vs i 0 here, list_any-append (eqb q) (take i vs) (get_or vs i 0 ∷ []))
      (e ∙ either_last before (is_eq (nat_cmp (get_or vs i 0) q)) (eqb q (get_or vs i 0)) (is_at_same (get_or vs i 0) q) ∙ ap (λ b. b || (eqb q (get_or vs i 0) || false)) h)
