-- Edges that are put into a list one by one, each unless it is there.
use Rattle.std.proofs.Common.{◌≡◌, Bool, true, false, cond, ◌&&◌, ◌||◌, ◌==◌, not, List, [], ◌∷◌, ◌++◌, filter, fold, refl, sym, ap, ◌∙◌, arith, append_assoc, append-nil}
use Rattle.std.proofs.lemmas.Bool.{and_parts}
use Rattle.std.proofs.lemmas.Bool.Decides.{Decides-eqb, nat_tests}
use Rattle.std.proofs.lemmas.List.Folds.{list_any-append}
use Rattle.std.specs.List.{list_any}
use Rattle.gn_plain.specs.Edges.{Edge, is_edge, with_edge, first_seen}

-- two filters, one after the other, are the filter of both tests
filter_both : {X : Type 0} (p q r : X → Bool) → ((x : X) → r x ≡ (q x && p x)) → (xs : List X) → filter p (filter q xs) ≡ filter r xs
filter_both p q r both [] = refl
filter_both p q r both (x ∷ xs) = by (q x) refl (filter_both p q r both xs)
  where
    by : (b : Bool) → q x ≡ b → filter p (filter q xs) ≡ filter r xs → filter p (cond (q x) (x ∷ filter q xs) (filter q xs)) ≡ cond (r x) (x ∷ filter r xs) (filter r xs)
    by true e rest = rw (e, both x, e) (ap (λ l. cond (p x) (x ∷ l) l) rest)
    by false e rest = rw (e, both x, e) rest

-- edges with the same vertices are the same
pub edge_same : (a b : Edge) → is_edge a b ≡ true → a ≡ b
edge_same a b e =
    let parts = and_parts (a.lesser == b.lesser) (a.greater == b.greater) e in
    let lesser = (Decides-eqb a.lesser b.lesser).0 parts.0 in
    let greater = (Decides-eqb a.greater b.greater).0 parts.1 in
    λ i. record { lesser = lesser i; greater = greater i }

is_edge_comm : (a b : Edge) → is_edge a b ≡ is_edge b a
is_edge_comm a b = grind (arith, nat_tests)

-- the edge is not among these
abbrev lacks : List Edge → Edge → Bool
lacks ks x = not (list_any (is_edge x) ks)

not_or : (x y : Bool) → not (x || (y || false)) ≡ (not y && not x)
not_or true true = refl
not_or true false = refl
not_or false true = refl
not_or false false = refl

lacks_more : (ks : List Edge) (e x : Edge) → lacks (ks ++ e ∷ []) x ≡ (not (is_edge e x) && lacks ks x)
lacks_more ks e x =
    ap not (list_any-append (is_edge x) ks (e ∷ [])) ∙ not_or (list_any (is_edge x) ks) (is_edge x e)
    ∙ ap (λ b. not b && lacks ks x) (is_edge_comm x e)

lacks_same : (ks : List Edge) (e x : Edge) → list_any (is_edge e) ks ≡ true → lacks ks x ≡ (not (is_edge e x) && lacks ks x)
lacks_same ks e x there = by (is_edge e x) refl
  where
    by : (b : Bool) → is_edge e x ≡ b → lacks ks x ≡ (not (is_edge e x) && lacks ks x)
    by true same = rw same (ap (λ y. lacks ks y) (sym (edge_same e x same)) ∙ ap not there)
    by false differs = rw differs refl

-- what is put behind others is what they lack
pub fold_with_edge : (ks es : List Edge) → fold with_edge ks es ≡ ks ++ filter (lacks ks) (first_seen es)
fold_with_edge ks [] = sym (append-nil ks)
fold_with_edge ks (e ∷ es) = by (list_any (is_edge e) ks) refl (fold_with_edge ks es) (fold_with_edge (ks ++ e ∷ []) es)
  where
    by : (b : Bool) → list_any (is_edge e) ks ≡ b → fold with_edge ks es ≡ ks ++ filter (lacks ks) (first_seen es)
        → fold with_edge (ks ++ e ∷ []) es ≡ (ks ++ e ∷ []) ++ filter (lacks (ks ++ e ∷ [])) (first_seen es)
        → fold with_edge (cond (list_any (is_edge e) ks) ks (ks ++ e ∷ [])) es ≡ ks ++ cond (lacks ks e) (e ∷ filter (lacks ks) (filter (λ x. not (is_edge e x)) (first_seen es))) (filter (lacks ks) (filter (λ x. not (is_edge e x)) (first_seen es)))
    by true there kept more =
        rw there (kept ∙ ap (λ l. ks ++ l) (sym (filter_both (lacks ks) (λ x. not (is_edge e x)) (lacks ks) (λ x. lacks_same ks e x there) (first_seen es))))
    by false new kept more =
        rw new (more ∙ append_assoc ks (e ∷ []) (filter (lacks (ks ++ e ∷ [])) (first_seen es))
        ∙ ap (λ l. ks ++ (e ∷ l)) (sym (filter_both (lacks ks) (λ x. not (is_edge e x)) (lacks (ks ++ e ∷ [])) (lacks_more ks e) (first_seen es))))

filter_all : {X : Type 0} (xs : List X) → filter (λ x. true) xs ≡ xs
filter_all [] = refl
filter_all (x ∷ xs) = ap (λ l. x ∷ l) (filter_all xs)

pub first_seen-fold : (es : List Edge) → fold with_edge [] es ≡ first_seen es
first_seen-fold es = fold_with_edge [] es ∙ filter_all (first_seen es)
