-- Segments that rise, and their numbers.
use Rattle.std.proofs.Common.{◌≡◌, ℕ, zero, suc, ◌+◌, ◌-◌, ◌<◌, ◌≤◌, max, ◌||◌, eqb, List, [], ◌∷◌, ◌++◌, length, get_or, take, drop, refl, sym, ap, subst, ◌∙◌, arith, length-append, Some}
use Rattle.std.specs.List.{All, slice_get, range_with_len}
use Rattle.std.proofs.lemmas.List.{append_assoc, take_all, take_more, drop_more}
use Rattle.std.proofs.lemmas.Option.{slice_get_within, get_or_from_slice_get}
use Rattle.std.proofs.lemmas.List.Folds.{list_any-append}
use Rattle.std.proofs.lemmas.List.Elements.{All-nil, All-append}
use Rattle.std.proofs.lemmas.List.FromFn.{length-range_with_len, get_or-range_with_len}
use Rattle.gn_mask.specs.declared.segment.Segment.{Segment}
use Rattle.gn_mask.specs.Numbers.{numbers, is_among}
use Rattle.gn_mask.specs.Segments.{elements, is_inside, covers, Rises}
use Rattle.gn_mask.proofs.Numbers.{among_numbers}
use Rattle.gn_mask.proofs.Rising.{Rising, rising_lower, rising_range, rising_append}

pub lower : (a b below : ℕ) (ss : List Segment) → a ≤ b → Rises b below ss → Rises a below ss
lower a b below [] h r = omega arith
lower a b below (s ∷ ss) h r = (omega arith, r.1, r.2)

pub raise : (from a b : ℕ) (ss : List Segment) → a ≤ b → Rises from a ss → Rises from b ss
raise from a b [] h r = omega arith
raise from a b (s ∷ ss) h r = (r.0, r.1, raise (suc s.end) a b ss h r.2)

pub bounds : (from below : ℕ) (ss : List Segment) → Rises from below ss → from ≤ below
bounds from below [] r = r
bounds from below (s ∷ ss) r = let h = bounds (suc s.end) below ss r.2 in omega arith

pub rises_drop : (from below i : ℕ) (ss : List Segment) → Rises from below ss → Rises from below (drop i ss)
rises_drop from below zero ss r = r
rises_drop from below (suc i) [] r = r
rises_drop from below (suc i) (s ∷ ss) r = rises_drop from below i ss (lower from (suc s.end) below ss (omega arith) r.2)

-- ---- one segment behind the others

pub behind : (from below : ℕ) (ss : List Segment) (s : Segment) → Rises from below ss → below ≤ s.start → s.start < s.end → Rises from (suc s.end) (ss ++ s ∷ [])
behind from below [] s r h g = (omega arith, g, omega arith)
behind from below (t ∷ ss) s r h g = (r.0, r.1, behind (suc t.end) below ss s r.2 h g)

pub before : (from below : ℕ) (ss : List Segment) (s : Segment) → Rises from below (ss ++ s ∷ []) → (Rises from s.start ss) × (s.start < s.end) × (s.end < below)
before from below [] s r = (r.0, r.1, omega (arith, r.2))
before from below (t ∷ ss) s r = let b = before (suc t.end) below ss s r.2 in ((r.0, r.1, b.0), b.1, b.2)

-- the last segment, behind the others
pub last_split : (ss : List Segment) (s : Segment) → slice_get ss (length ss - 1) ≡ Some s → ss ≡ take (length ss - 1) ss ++ s ∷ []
last_split ss s h =
    let within = slice_get_within ss (length ss - 1) s h in
    sym (take_all (length ss - 1 + 1) ss (omega arith)) ∙ take_more ss (length ss - 1) s within
    ∙ ap (λ t. take (length ss - 1) ss ++ t ∷ []) (get_or_from_slice_get ss (length ss - 1) s s h)

-- segments whose last one doesn't end at a number end below it
pub apart : (below : ℕ) (ss : List Segment) (s : Segment) → Rises 0 (below + 1) ss → slice_get ss (length ss - 1) ≡ Some s → (s.end ≡ below → ⊥) → Rises 0 below ss
apart below ss s r h g =
    let split = last_split ss s h in
    let b = before 0 (below + 1) (take (length ss - 1) ss) s (subst (λ ts. Rises 0 (below + 1) ts) split r) in
    let e : suc s.end ≤ below = omega (arith, b.2) in
    subst (λ ts. Rises 0 below ts) (sym split)
    (raise 0 (suc s.end) below (take (length ss - 1) ss ++ s ∷ []) e (behind 0 s.start (take (length ss - 1) ss) s b.0 (omega arith) b.1))

-- the segments before the last one
pub before_last : (below : ℕ) (ss : List Segment) (s : Segment) → Rises 0 below ss → slice_get ss (length ss - 1) ≡ Some s → (Rises 0 s.start (take (length ss - 1) ss)) × (s.start < s.end)
before_last below ss s r h =
    let b = before 0 below (take (length ss - 1) ss) s (subst (λ ts. Rises 0 below ts) (last_split ss s h) r) in
    (b.0, b.1)

pub elements_more : (ss : List Segment) (s : Segment) → elements (ss ++ s ∷ []) ≡ elements ss ++ numbers s.start s.end
elements_more [] s = refl_nil (numbers s.start s.end)
  where
    refl_nil : (ns : List ℕ) → ns ++ [] ≡ ns
    refl_nil [] = refl
    refl_nil (n ∷ ns) = ap (λ xs. n ∷ xs) (refl_nil ns)
elements_more (t ∷ ss) s = ap (λ ns. numbers t.start t.end ++ ns) (elements_more ss s) ∙ sym (append_assoc (numbers t.start t.end) (elements ss) (numbers s.start s.end))

-- ---- their numbers

pub covers_is : (ss : List Segment) (x : ℕ) → is_among (elements ss) x ≡ covers ss x
covers_is [] x = refl
covers_is (s ∷ ss) x =
    list_any-append (λ m. eqb x m) (numbers s.start s.end) (elements ss)
    ∙ ap (λ b. b || is_among (elements ss) x) (among_numbers s.start s.end x)
    ∙ ap (λ b. is_inside x s || b) (covers_is ss x)

pub rising : (from below : ℕ) (ss : List Segment) → Rises from below ss → Rising from below (elements ss)
rising from below [] r = r
rising from below (s ∷ ss) r =
    let front = rising_lower from s.start (suc s.end) (numbers s.start s.end) r.0 (rising_range s.start (s.end - s.start) (suc s.end) (omega (arith, r.1))) in
    rising_append from (suc s.end) below (numbers s.start s.end) (elements ss) front (rising (suc s.end) below ss r.2)

pub few : (from below : ℕ) (ss : List Segment) → Rises from (below + 1) ss → length (elements ss) + from ≤ max from below
few from below [] r = omega arith
few from below (s ∷ ss) r =
    let rest = few (suc s.end) below ss r.2 in
    let end = bounds (suc s.end) (below + 1) ss r.2 in
    let here : length (numbers s.start s.end) ≡ s.end - s.start = length-range_with_len s.start (s.end - s.start) in
    let all : length (elements (s ∷ ss)) ≡ length (numbers s.start s.end) + length (elements ss) = length-append (numbers s.start s.end) (elements ss) in
    omega (arith, r.0, r.1, rest, end, here, all)

-- ---- along the segments

-- the segment at an index, and the numbers from it on
pub at_index : (below i : ℕ) (ss : List Segment) (d : Segment) → Rises 0 below ss → i < length ss
    → (elements (drop i ss) ≡ numbers (get_or ss i d).start (get_or ss i d).end ++ elements (drop (i + 1) ss)) × ((get_or ss i d).start < (get_or ss i d).end)
at_index below i ss d r h =
    let split = drop_more ss i d h in
    let here = subst (λ ts. Rises 0 below ts) split (rises_drop 0 below i ss r) in
    (ap elements split, here.1)

pub length_at : (below i : ℕ) (ss : List Segment) (d : Segment) → Rises 0 below ss → i < length ss
    → (length (elements (drop i ss)) + (get_or ss i d).start ≡ (get_or ss i d).end + length (elements (drop (i + 1) ss))) × ((get_or ss i d).start < (get_or ss i d).end)
length_at below i ss d r h =
    let at = at_index below i ss d r h in
    let s = get_or ss i d in
    let here : length (numbers s.start s.end) ≡ s.end - s.start = length-range_with_len s.start (s.end - s.start) in
    let all : length (elements (drop i ss)) ≡ length (numbers s.start s.end) + length (elements (drop (i + 1) ss)) = ap length at.0 ∙ length-append (numbers s.start s.end) (elements (drop (i + 1) ss)) in
    let forward = at.1 in
    (omega (arith, here, all, forward), forward)

range_below : (a n below : ℕ) → a + n ≤ below → All (λ m. m < below) (range_with_len a n)
range_below a n below h k d l =
    let within : k < n = omega (arith, l, length-range_with_len a n) in
    let at : get_or (range_with_len a n) k d ≡ a + k = get_or-range_with_len a n k d within in
    omega (arith, at, within)

pub all_below : (from below : ℕ) (ss : List Segment) → Rises from (below + 1) ss → All (λ n. n < below) (elements ss)
all_below from below [] r = All-nil (λ n. n < below)
all_below from below (s ∷ ss) r =
    let end = bounds (suc s.end) (below + 1) ss r.2 in
    All-append (λ n. n < below) (numbers s.start s.end) (elements ss) (range_below s.start (s.end - s.start) below (omega (arith, r.1, end))) (all_below (suc s.end) below ss r.2)
