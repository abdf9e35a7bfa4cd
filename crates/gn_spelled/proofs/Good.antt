-- Elements whose vertices are there, and the edges that they name.
use Rattle.std.proofs.Common.{◌≡◌, ℕ, suc, ◌+◌, ◌<◌, ◌≤◌, Bool, true, false, cond, not, ◌&&◌, ◌||◌, ◌==◌, nat_lt, List, [], ◌∷◌, ◌++◌, length, filter, flat_map, fold, get_or, refl, sym, ap, arith}
use Rattle.std.specs.List.{list_any}
use Rattle.std.proofs.lemmas.Bool.Decides.{nat_tests}
use Rattle.gn_plain.specs.Edges.{Edge, is_edge, with_edge, edge_between, edges_along, edges_around, first_seen}
use Rattle.gn_plain.proofs.EdgeLemmas.{edge_same}
use Rattle.gn_elements.specs.Read.{Element, vertex, row, face, nothing, edges_of, is_proper, all_differ}
use Rattle.gn_spelled.proofs.Numbers.{number_in, is_in, added, all_there, itself}
use Rattle.gn_spelled.proofs.Closed.{faces_in, edges_among}
use Rattle.gn_spelled.proofs.Each.{Each, Pairs, each-append, each-front, each-back, each-filter, pairs-filter}

-- its vertices are below n, and those of a face are at least three that differ
abbrev pub Good : ℕ → Element → Type 0
Good n (vertex p) = Unit {0}
Good n (row vs) = Each (λ v. v < n) vs
Good n (face vs) = Each (λ v. v < n) vs × (all_differ vs ≡ true) × (3 ≤ length vs)
Good n nothing = Unit {0}

-- an edge between two vertices below n, the lesser first
abbrev pub Proper : ℕ → Edge → Type 0
Proper n e = (e.lesser < e.greater) × (e.greater < n)

-- ---- edges

between-at : (a b n : ℕ) (c : Bool) → nat_lt b a ≡ c → a < n → b < n → is_proper (cond c (record { lesser = b; greater = a }) (record { lesser = a; greater = b })) ≡ true → Proper n (cond c (record { lesser = b; greater = a }) (record { lesser = a; greater = b }))
between-at a b n true e h k p = (grind (arith, nat_tests), h)
between-at a b n false e h k p = (grind (arith, nat_tests), k)

between : (a b n : ℕ) → a < n → b < n → is_proper (edge_between a b) ≡ true → Proper n (edge_between a b)
between a b n h k p = between-at a b n (nat_lt b a) refl h k p

kept-at : (n a b : ℕ) (es : List Edge) (c : Bool) → is_proper (edge_between a b) ≡ c → a < n → b < n → Each (Proper n) es → Each (Proper n) (cond c (edge_between a b ∷ es) es)
kept-at n a b es true e h k rest = (between a b n h k e, rest)
kept-at n a b es false e h k rest = rest

proper_along : (n v : ℕ) (vs : List ℕ) → Each (λ u. u < n) (v ∷ vs) → Each (Proper n) (filter is_proper (edges_along (v ∷ vs)))
proper_along n v [] h = tt
proper_along n v (u ∷ vs) h = kept-at n v u (filter is_proper (edges_along (u ∷ vs))) (is_proper (edge_between v u)) refl h.0 h.1.0 (proper_along n u vs h.1)

pub proper_row : (n : ℕ) (vs : List ℕ) → Each (λ v. v < n) vs → Each (Proper n) (filter is_proper (edges_along vs))
proper_row n [] h = tt
proper_row n (v ∷ vs) h = proper_along n v vs h

differ-at : (a b : ℕ) (c : Bool) → nat_lt b a ≡ c → (a == b) ≡ false → is_proper (cond c (record { lesser = b; greater = a }) (record { lesser = a; greater = b })) ≡ true
differ-at a b true e h = grind (arith, nat_tests)
differ-at a b false e h = rw h refl

differ : (a b : ℕ) → (a == b) ≡ false → is_proper (edge_between a b) ≡ true
differ a b h = differ-at a b (nat_lt b a) refl h

both : (a b : Bool) → (a && b) ≡ true → (a ≡ true) × (b ≡ true)
both true b h = (refl, h)
both false b h = cc

neither : (a b : Bool) → not (a || b) ≡ true → (a ≡ false) × (not b ≡ true)
neither true b h = cc
neither false b h = (refl, h)

-- from v along others that differ, and at last to one that is none of them
closed : (n v z : ℕ) (vs : List ℕ) → Each (λ u. u < n) (v ∷ vs) → z < n → all_differ (v ∷ vs) ≡ true → not (list_any (λ u. u == z) (v ∷ vs)) ≡ true → Each (Proper n) (edges_along (v ∷ (vs ++ z ∷ [])))
closed n v z [] h k d m =
    let no = neither (v == z) false m in
    (between v z n h.0 k (differ v z no.0), tt)
closed n v z (u ∷ vs) h k d m =
    let parts = both (not (list_any (λ x. x == v) (u ∷ vs))) (all_differ (u ∷ vs)) d in
    let first = neither (u == v) (list_any (λ x. x == v) vs) parts.0 in
    let other = neither (v == z) (list_any (λ x. x == z) (u ∷ vs)) m in
    let apart : (v == u) ≡ false = grind (arith, nat_tests, first.0) in
    (between v u n h.0 h.1.0 (differ v u apart), closed n u z vs h.1 k parts.1 other.1)

pub proper_face : (n : ℕ) (vs : List ℕ) → Each (λ v. v < n) vs → all_differ vs ≡ true → 3 ≤ length vs → Each (Proper n) (edges_around vs)
proper_face n [] h d long = absurd (omega arith)
proper_face n (a ∷ []) h d long = absurd (omega arith)
proper_face n (a ∷ b ∷ vs) h d long =
    let parts = both (not (list_any (λ x. x == a) (b ∷ vs))) (all_differ (b ∷ vs)) d in
    let first = neither (b == a) (list_any (λ x. x == a) vs) parts.0 in
    let apart : (a == b) ≡ false = grind (arith, nat_tests, first.0) in
    (between a b n h.0 h.1.0 (differ a b apart), closed n b a vs h.1 h.0 parts.1 parts.0)

pub proper_edges : (n : ℕ) (e : Element) → Good n e → Each (Proper n) (edges_of e)
proper_edges n (vertex p) h = tt
proper_edges n (row vs) h = proper_row n vs h
proper_edges n (face vs) h = proper_face n vs h.0 h.1 h.2
proper_edges n nothing h = tt

pub proper_all : (n : ℕ) (es : List Element) → Each (Good n) es → Each (Proper n) (edges_among es)
proper_all n [] h = tt
proper_all n (e ∷ es) h = each-append (Proper n) (edges_of e) (edges_among es) (proper_edges n e h.0) (proper_all n es h.1)

-- ---- each edge once

pub each-first_seen : (P : Edge → Type 0) (es : List Edge) → Each P es → Each P (first_seen es)
each-first_seen P [] h = tt
each-first_seen P (e ∷ es) h = (h.0, each-filter P (λ x. not (is_edge e x)) (first_seen es) (each-first_seen P es h.1))

others-at : (e x : Edge) (xs : List Edge) (b : Bool) → is_edge e x ≡ b → Each (λ y. e ≡ y → ⊥) xs → Each (λ y. e ≡ y → ⊥) (cond (not b) (x ∷ xs) xs)
others-at e x xs true h rest = rest
others-at e x xs false h rest = (λ same. let t = ap (λ y. is_edge e y) same in let i = itself e in cc, rest)

others : (e : Edge) (xs : List Edge) → Each (λ y. e ≡ y → ⊥) (filter (λ x. not (is_edge e x)) xs)
others e [] = tt
others e (x ∷ xs) = others-at e x (filter (λ y. not (is_edge e y)) xs) (is_edge e x) refl (others e xs)

pub pairs-first_seen : (es : List Edge) → Pairs (first_seen es)
pairs-first_seen [] = tt
pairs-first_seen (e ∷ es) = (others e (first_seen es), pairs-filter (λ x. not (is_edge e x)) (first_seen es) (pairs-first_seen es))

-- ---- an edge by its number

found-at : (e k : Edge) (ks : List Edge) (d : Edge) (b : Bool) → is_edge e k ≡ b → (b || is_in ks e) ≡ true → (is_in ks e ≡ true → (number_in ks e < length ks) × (get_or ks (number_in ks e) d ≡ e)) → (cond (not b) (1 + number_in ks e) 0 < length (k ∷ ks)) × (get_or (k ∷ ks) (cond (not b) (1 + number_in ks e) 0) d ≡ e)
found-at e k ks d true h there rest = (omega arith, sym (edge_same e k h))
found-at e k ks d false h there rest =
    let r = rest there in
    let one : 1 + number_in ks e ≡ suc (number_in ks e) = omega arith in
    (let below = r.0 in omega arith, rw one r.1)

pub found : (e : Edge) (ks : List Edge) (d : Edge) → is_in ks e ≡ true → (number_in ks e < length ks) × (get_or ks (number_in ks e) d ≡ e)
found e [] d h = cc
found e (k ∷ ks) d h = found-at e k ks d (is_edge e k) refl h (found e ks d)

-- each edge that was added is there at last
pub all_in : (ks es : List Edge) → Each (λ e. is_in (fold with_edge ks es) e ≡ true) es
all_in ks [] = tt
all_in ks (e ∷ es) = (all_there (with_edge ks e) es [] e (added e ks).0, all_in (with_edge ks e) es)

-- what holds of the edges of all elements holds of those of each face
pub each-face : (P : Edge → Type 0) (es : List Element) → Each P (edges_among es) → Each (λ vs. Each P (edges_around vs)) (faces_in es)
each-face P [] h = tt
each-face P (vertex p ∷ es) h = each-face P es h
each-face P (row vs ∷ es) h = each-face P es (each-back P (filter is_proper (edges_along vs)) (edges_among es) h)
each-face P (face vs ∷ es) h = (each-front P (edges_around vs) (edges_among es) h, each-face P es (each-back P (edges_around vs) (edges_among es) h))
each-face P (nothing ∷ es) h = each-face P es h

abbrev pub GoodFace : ℕ → List ℕ → Type 0
GoodFace n vs = Each (λ v. v < n) vs × (all_differ vs ≡ true) × (3 ≤ length vs)

pub good_faces : (n : ℕ) (es : List Element) → Each (Good n) es → Each (GoodFace n) (faces_in es)
good_faces n [] h = tt
good_faces n (vertex p ∷ es) h = good_faces n es h.1
good_faces n (row vs ∷ es) h = good_faces n es h.1
good_faces n (face vs ∷ es) h = (h.0, good_faces n es h.1)
good_faces n (nothing ∷ es) h = good_faces n es h.1

pub vertices_below : (n : ℕ) (faces : List (List ℕ)) → Each (GoodFace n) faces → Each (λ v. v < n) (flat_map (λ vs. vs) faces)
vertices_below n [] h = tt
vertices_below n (vs ∷ faces) h = each-append (λ v. v < n) vs (flat_map (λ us. us) faces) h.0.0 (vertices_below n faces h.1)

-- vertices of which none stands twice
without : (v : ℕ) (vs : List ℕ) → not (list_any (λ u. u == v) vs) ≡ true → Each (λ u. v ≡ u → ⊥) vs
without v [] h = tt
without v (u ∷ vs) h =
    let parts = neither (u == v) (list_any (λ x. x == v) vs) h in
    let apart = parts.0 in
    (λ same. absurd (grind (arith, nat_tests, apart, same)), without v vs parts.1)

pub pairs-all_differ : (vs : List ℕ) → all_differ vs ≡ true → Pairs vs
pairs-all_differ [] h = tt
pairs-all_differ (v ∷ vs) h =
    let parts = both (not (list_any (λ u. u == v) vs)) (all_differ vs) h in
    (without v vs parts.0, pairs-all_differ vs parts.1)
