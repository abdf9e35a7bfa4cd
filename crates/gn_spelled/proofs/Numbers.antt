-- The numbers of edges in a list to which edges are added.
use Rattle.std.proofs.Common.{◌≡◌, ℕ, ◌+◌, Bool, true, false, cond, not, ◌||◌, List, [], ◌∷◌, ◌++◌, map, fold, filter, refl, ap, ◌∙◌, arith}
use Rattle.std.specs.List.{list_any, position_or_len}
use Rattle.std.proofs.lemmas.Bool.Decides.{nat_tests}
use Rattle.std.proofs.lemmas.List.Folds.{list_any-append}
use Rattle.gn_plain.specs.Edges.{Edge, is_edge, with_edge, first_seen}
use Rattle.gn_plain.proofs.EdgeLemmas.{fold_with_edge}
use Rattle.gn_elements.specs.Growing.{numbers_among}

abbrev pub number_in : List Edge → Edge → ℕ
number_in edges e = position_or_len (is_edge e) edges

abbrev pub is_in : List Edge → Edge → Bool
is_in edges e = list_any (is_edge e) edges

stays-at : (e k : Edge) (ks zs : List Edge) (b : Bool) → is_edge e k ≡ b → (b || is_in ks e) ≡ true → (is_in ks e ≡ true → number_in (ks ++ zs) e ≡ number_in ks e) → cond (not b) (1 + number_in (ks ++ zs) e) 0 ≡ cond (not b) (1 + number_in ks e) 0
stays-at e k ks zs true h there rest = refl
stays-at e k ks zs false h there rest = ap (λ n. 1 + n) (rest there)

-- the number of an edge stays where others are put behind
stays : (e : Edge) (ks zs : List Edge) → is_in ks e ≡ true → number_in (ks ++ zs) e ≡ number_in ks e
stays e [] zs h = cc
stays e (k ∷ ks) zs h = stays-at e k ks zs (is_edge e k) refl h (stays e ks zs)

pub stays_fold : (e : Edge) (ks zs : List Edge) → is_in ks e ≡ true → number_in (fold with_edge ks zs) e ≡ number_in ks e
stays_fold e ks zs h = ap (λ es. number_in es e) (fold_with_edge ks zs) ∙ stays e ks (filter (λ x. not (is_in ks x)) (first_seen zs)) h

pub itself : (e : Edge) → is_edge e e ≡ true
itself e = grind (arith, nat_tests)

last-at : (e k : Edge) (ks : List Edge) (b : Bool) → is_edge e k ≡ b → (b || is_in ks e) ≡ false → (is_in ks e ≡ false → number_in (ks ++ e ∷ []) e ≡ number_in ks e) → cond (not b) (1 + number_in (ks ++ e ∷ []) e) 0 ≡ cond (not b) (1 + number_in ks e) 0
last-at e k ks true h new rest = refl
last-at e k ks false h new rest = ap (λ n. 1 + n) (rest new)

last : (e : Edge) (ks : List Edge) → is_in ks e ≡ false → number_in (ks ++ e ∷ []) e ≡ number_in ks e
last e [] h = rw (itself e) refl
last e (k ∷ ks) h = last-at e k ks (is_edge e k) refl h (last e ks)

or_true : (b : Bool) → (b || (true || false)) ≡ true
or_true true = refl
or_true false = refl

-- an edge that was added is there, with the number that it got
added-at : (e : Edge) (ks : List Edge) (b : Bool) → is_in ks e ≡ b → (is_in (cond b ks (ks ++ e ∷ [])) e ≡ true) × (number_in (cond b ks (ks ++ e ∷ [])) e ≡ number_in ks e)
added-at e ks true h = (h, refl)
added-at e ks false h = (list_any-append (is_edge e) ks (e ∷ []) ∙ rw (itself e) (or_true (is_in ks e)), last e ks h)

pub added : (e : Edge) (ks : List Edge) → (is_in (with_edge ks e) e ≡ true) × (number_in (with_edge ks e) e ≡ number_in ks e)
added e ks = added-at e ks (is_in ks e) refl

-- the numbers that edges get are those that they have at last
pub numbers_last : (ks es zs : List Edge) → numbers_among ks es ≡ map (number_in (fold with_edge ks (es ++ zs))) es
numbers_last ks [] zs = refl
numbers_last ks (e ∷ es) zs =
    let a = added e ks in
    let head : number_in (fold with_edge (with_edge ks e) (es ++ zs)) e ≡ number_in ks e = stays_fold e (with_edge ks e) (es ++ zs) a.0 ∙ a.1 in
    rw head (ap (λ ns. number_in ks e ∷ ns) (numbers_last (with_edge ks e) es zs))

-- each of the edges is there at last
pub all_there : (ks es zs : List Edge) (e : Edge) → is_in ks e ≡ true → is_in (fold with_edge ks es) e ≡ true
all_there ks es zs e h = ap (λ xs. is_in xs e) (fold_with_edge ks es) ∙ list_any-append (is_edge e) ks (filter (λ x. not (is_in ks x)) (first_seen es)) ∙ rw h refl
