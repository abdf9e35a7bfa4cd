-- The corners of a face, one by one, and those of the faces.
use Rattle.std.proofs.Common.{◌≡◌, ◌≢◌, ℕ, zero, suc, ◌+◌, ◌-◌, ◌<◌, ◌≤◌, Bool, true, false, cond, List, [], ◌∷◌, ◌++◌, length, map, drop, take, fold, get_or, refl, sym, ap, ap₂, subst, ◌∙◌, arith, sub-one, add-one, length-take-le, length-drop, append_assoc, ltb-true, ltb-false}
use Rattle.std.proofs.Math.ListN.{drop_of_length-le}
use Rattle.std.specs.Prelude.{slice_range, flat_map, nat_lt, if◌then◌else◌}
use Rattle.std.specs.List.{zip}
use Rattle.std.proofs.lemmas.List.{drop_more, take-map, drop-map}
use Rattle.std.proofs.lemmas.Grind.{flat_map-append}
use Rattle.gn_plain.specs.Geometry as geometry
use Rattle.gn_plain.specs.Topology.{RiseTo, corner_of, parts_between}
use Rattle.gn_plain.specs.Interpolation.{Taking, Touching, touching, corners_on, corners_from, last_edge}
use Rattle.gn_plain.proofs.TopologyLemmas.{le_from_RiseTo, length-corners}

abbrev pub corners_of : List ℕ → List ℕ → List geometry.Corner
corners_of vs ks = map corner_of (zip vs ks)

-- ---- the corners of a face

-- the corner behind one that others follow, or the face's first
abbrev pub next_of : ℕ → ℕ → List geometry.Corner → ℕ
next_of first corner [] = first
next_of first corner (c ∷ cs) = suc corner

pub on_step : (face first corner before : ℕ) (c : geometry.Corner) (cs : List geometry.Corner)
    → corners_on face first corner before (c ∷ cs) ≡ touching face corner before (next_of first corner cs) c ∷ corners_on face first (suc corner) c.edge cs
on_step face first corner before c [] = refl
on_step face first corner before c (d ∷ cs) = refl

-- from a number on
pub corners_at : (vs ks : List ℕ) (i v k : ℕ) → length vs ≡ length ks → i < length vs → v ≡ get_or vs i 0 → k ≡ get_or ks i 0 → drop i (corners_of vs ks) ≡ corner_of (v, k) ∷ drop (suc i) (corners_of vs ks)
corners_at [] ks i v k e within at_v at_k = absurd (omega arith)
corners_at (x ∷ vs) [] i v k e within at_v at_k = absurd (omega arith)
corners_at (x ∷ vs) (y ∷ ks) zero v k e within at_v at_k = rw (at_v, at_k) refl
corners_at (x ∷ vs) (y ∷ ks) (suc i) v k e within at_v at_k = corners_at vs ks i v k (omega (arith, e)) (omega (arith, within)) at_v at_k

next_by : (vs ks : List ℕ) (i first corner : ℕ) (b : Bool) → nat_lt (suc i) (length vs) ≡ b → length vs ≡ length ks → next_of first corner (drop (suc i) (corners_of vs ks)) ≡ cond b (suc corner) first
next_by vs ks i first corner true h e =
    let within : suc i < length vs = ltb-true (suc i) (length vs) h in
    ap (next_of first corner) (corners_at vs ks (suc i) (get_or vs (suc i) 0) (get_or ks (suc i) 0) e within refl refl)
next_by vs ks i first corner false h e =
    let past : length vs ≤ suc i = ltb-false (suc i) (length vs) h in
    let many : length (corners_of vs ks) ≡ length vs = length-corners vs ks e in
    ap (next_of first corner) (drop_of_length-le (corners_of vs ks) {i = suc i} (omega (arith, past, many)))

pub next_is : (vs ks : List ℕ) (i first corner : ℕ) → length vs ≡ length ks → next_of first corner (drop (suc i) (corners_of vs ks)) ≡ (if nat_lt (suc i) (length vs) then suc corner else first)
next_is vs ks i first corner e = next_by vs ks i first corner (nat_lt (suc i) (length vs)) refl e

abbrev last_or : ℕ → List ℕ → ℕ
last_or a [] = a
last_or a (k ∷ ks) = last_or k ks

last_corner : (a : ℕ) (vs ks : List ℕ) → length vs ≡ length ks → fold (λ before (c : geometry.Corner). c.edge) a (corners_of vs ks) ≡ last_or a ks
last_corner a [] [] e = refl
last_corner a [] (k ∷ ks) e = absurd (omega arith)
last_corner a (v ∷ vs) [] e = absurd (omega arith)
last_corner a (v ∷ vs) (k ∷ ks) e = last_corner k vs ks (omega (arith, e))

last_at : (a k : ℕ) (ks : List ℕ) → last_or a (k ∷ ks) ≡ get_or (k ∷ ks) (length ks) 0
last_at a k [] = refl
last_at a k (j ∷ ks) = last_at k j ks

pub last_is : (vs ks : List ℕ) → length vs ≡ length ks → 0 < length vs → last_edge (corners_of vs ks) ≡ get_or ks (length ks - 1) 0
last_is [] ks e some = absurd (omega arith)
last_is (v ∷ vs) [] e some = absurd (omega arith)
last_is (v ∷ vs) (k ∷ ks) e some = last_corner 0 (v ∷ vs) (k ∷ ks) e ∙ (last_at 0 k ks ∙ ap (λ n. get_or (k ∷ ks) n 0) (let n : length ks ≡ suc (length ks) - 1 = omega arith in n))

-- one corner's pairs, and those of the corners behind it
pub add_step : (f : Touching → List Taking) (face first corner before : ℕ) (vs ks : List ℕ) (i v k next : ℕ) (old done : List Taking) (all : List Taking)
    → length vs ≡ length ks → i < length vs → v ≡ get_or vs i 0 → k ≡ get_or ks i 0 → next ≡ (if nat_lt (suc i) (length vs) then suc corner else first)
    → done ≡ old ++ f (touching face corner before next (corner_of (v, k)))
    → old ++ flat_map f (corners_on face first corner before (drop i (corners_of vs ks))) ≡ all
    → done ++ flat_map f (corners_on face first (suc corner) k (drop (suc i) (corners_of vs ks))) ≡ all
add_step f face first corner before vs ks i v k next old done all e within at_v at_k nexts adds so_far =
    let cut = corners_at vs ks i v k e within at_v at_k in
    let step = on_step face first corner before (corner_of (v, k)) (drop (suc i) (corners_of vs ks)) in
    let follows : next_of first corner (drop (suc i) (corners_of vs ks)) ≡ next = next_is vs ks i first corner e ∙ sym nexts in
    let here = touching face corner before next (corner_of (v, k)) in
    let rest = corners_on face first (suc corner) k (drop (suc i) (corners_of vs ks)) in
    let split : corners_on face first corner before (drop i (corners_of vs ks)) ≡ here ∷ rest =
    ap (corners_on face first corner before) cut ∙ (step ∙ ap (λ n. touching face corner before n (corner_of (v, k)) ∷ rest) follows) in
    ap (λ xs. xs ++ flat_map f rest) adds ∙ (append_assoc old (f here) (flat_map f rest) ∙ (ap (λ cs. old ++ flat_map f cs) (sym split) ∙ so_far))

-- ---- the faces

zip_take : (n : ℕ) (vs ks : List ℕ) → take n (zip vs ks) ≡ zip (take n vs) (take n ks)
zip_take zero vs ks = refl
zip_take (suc n) [] ks = refl
zip_take (suc n) (v ∷ vs) [] = refl
zip_take (suc n) (v ∷ vs) (k ∷ ks) = ap (λ l. (v, k) ∷ l) (zip_take n vs ks)

no_zip : (vs : List ℕ) → zip vs (let ks : List ℕ = [] in ks) ≡ []
no_zip [] = refl
no_zip (v ∷ vs) = refl

zip_drop : (n : ℕ) (vs ks : List ℕ) → drop n (zip vs ks) ≡ zip (drop n vs) (drop n ks)
zip_drop zero vs ks = refl
zip_drop (suc n) [] ks = refl
zip_drop (suc n) (v ∷ vs) [] = sym (no_zip (drop n vs))
zip_drop (suc n) (v ∷ vs) (k ∷ ks) = zip_drop n vs ks

-- the corners of a face are those of its vertices and edges
pub range_is : (vs ks : List ℕ) (a b : ℕ) → slice_range (corners_of vs ks) a b ≡ corners_of (slice_range vs a b) (slice_range ks a b)
range_is vs ks a b =
    ap (take (b - a)) (drop-map corner_of a (zip vs ks)) ∙ (take-map corner_of (b - a) (drop a (zip vs ks)) ∙ ap (map corner_of) (ap (take (b - a)) (zip_drop a vs ks) ∙ zip_take (b - a) (drop a vs) (drop a ks)))

pub range_length : {X : Type 0} (xs : List X) (a b : ℕ) → a ≤ b → b ≤ length xs → length (slice_range xs a b) ≡ b - a
range_length xs a b ordered within = let n : length (drop a xs) ≡ length xs - a = length-drop a xs in length-take-le (b - a) (drop a xs) (omega (arith, n))

-- the next offset
pub next_offset : (count from next : ℕ) (offsets : List ℕ) (i : ℕ) → i < length offsets → next ≡ get_or offsets i 0 → RiseTo count from (drop i offsets)
    → (from + 3 ≤ next) × (next ≤ count) × RiseTo count next (drop (i + 1) offsets)
next_offset count from next offsets i within at rise =
    let cut : drop i offsets ≡ next ∷ drop (i + 1) offsets = drop_more offsets i 0 within ∙ ap (λ n. n ∷ drop (i + 1) offsets) (sym at) in
    let step : (from + 3 ≤ next) × RiseTo count next (drop (i + 1) offsets) = subst (RiseTo count from) cut rise in
    (step.0, le_from_RiseTo count next (drop (i + 1) offsets) step.1, step.1)

-- the pairs of one face, and those of the faces behind it
pub face_step : (f : Touching → List Taking) (face begin next : ℕ) (ends vs ks : List ℕ) (i : ℕ) (old done all : List Taking)
    → i < length ends → next ≡ get_or ends i 0 → RiseTo (length vs) begin (drop i ends) → length vs ≡ length ks
    → done ≡ old ++ flat_map f (corners_on face begin begin (last_edge (corners_of (slice_range vs begin next) (slice_range ks begin next))) (corners_of (slice_range vs begin next) (slice_range ks begin next)))
    → old ++ flat_map f (corners_from face begin (parts_between (begin ∷ drop i ends) (corners_of vs ks))) ≡ all
    → done ++ flat_map f (corners_from (suc face) next (parts_between (next ∷ drop (i + 1) ends) (corners_of vs ks))) ≡ all
face_step f face begin next ends vs ks i old done all within at rise paired adds so_far =
    let cs = corners_of vs ks in
    let steps = next_offset (length vs) begin next ends i within at rise in
    let cut : drop i ends ≡ next ∷ drop (i + 1) ends = drop_more ends i 0 within ∙ ap (λ n. n ∷ drop (i + 1) ends) (sym at) in
    let many : length cs ≡ length vs = length-corners vs ks paired in
    let long : length (slice_range cs begin next) ≡ next - begin = range_length cs begin next (omega (arith, steps.0)) (omega (arith, steps.1, many)) in
    let ends_at : begin + length (slice_range cs begin next) ≡ next = omega (arith, long, steps.0) in
    let here : List geometry.Corner → List Touching = λ part. corners_on face begin begin (last_edge part) part in
    let rest : ℕ → List Touching = λ n. corners_from (suc face) n (parts_between (next ∷ drop (i + 1) ends) cs) in
    let split : corners_from face begin (parts_between (begin ∷ drop i ends) cs) ≡ here (corners_of (slice_range vs begin next) (slice_range ks begin next)) ++ rest next =
    ap (λ l. corners_from face begin (parts_between (begin ∷ l) cs)) cut ∙ ap₂ (λ part n. here part ++ rest n) (range_is vs ks begin next) ends_at in
    let first = flat_map f (here (corners_of (slice_range vs begin next) (slice_range ks begin next))) in
    ap (λ xs. xs ++ flat_map f (rest next)) adds
    ∙ (append_assoc old first (flat_map f (rest next))
    ∙ (ap (λ l. old ++ l) (sym (flat_map-append f (here (corners_of (slice_range vs begin next) (slice_range ks begin next))) (rest next)) ∙ ap (flat_map f) (sym split)) ∙ so_far))
