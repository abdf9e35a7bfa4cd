-- One step along the segments of two masks.
use Rattle.std.proofs.Common.{◌≡◌, ℕ, suc, ◌-◌, ◌<◌, ◌≤◌, ◌^◌, max, min, Bool, true, false, not, ◌&&◌, ◌||◌, List, [], ◌∷◌, ◌++◌, length, get_or, drop, refl, sym, ap, ◌∙◌, arith}
use Rattle.std.specs.Prelude.{nat_le, nat_lt, nat_eq}
use Rattle.std.proofs.lemmas.List.Folds.{list_any-append}
use Rattle.std.proofs.lemmas.Bool.{and_parts, or_parts, leb-true}
use Rattle.std.proofs.lemmas.Bool.Decides.{nat_tests}
use Rattle.gn_mask.specs.declared.segment.Segment.{Segment}
use Rattle.gn_mask.specs.Numbers.{numbers, is_among, both, without}
use Rattle.gn_mask.specs.Segments.{elements, is_inside, covers, Rises, start_of}
use Rattle.gn_mask.proofs.Numbers.{among_numbers, among_filter}
use Rattle.gn_mask.proofs.Rising.{same_rising, rising_filter}
use Rattle.gn_mask.proofs.Segments.{bounds, covers_is, rising}

-- the first segment
abbrev pub first : List Segment → Segment
first ss = get_or ss 0 (record { start = 0; end = 0 })

abbrev pub between : ℕ → ℕ → ℕ → Bool
between from to n = nat_le from n && nat_lt n to

-- what holds of the first segment and of where the next one starts
pub front : (ss : List Segment) → 0 < length ss → Rises 0 (2 ^ 32) ss
    → (start_of ss ≡ (first ss).start) × ((first ss).start < (first ss).end) × ((first ss).end ≤ start_of (drop 1 ss)) × ((first ss).end < 2 ^ 32)
front [] h r = absurd (omega arith)
front (s ∷ []) h r = (refl, r.1, omega (arith, r.2), omega (arith, r.2))
front (s ∷ t ∷ ss) h r = let end = bounds (suc s.end) (2 ^ 32) (t ∷ ss) r.2 in (refl, r.1, omega (arith, r.2.0), omega (arith, end))

pub start_top : (ss : List Segment) → Rises 0 (2 ^ 32) ss → start_of ss ≤ 2 ^ 32 - 1
start_top [] r = omega arith
start_top (s ∷ ss) r = let end = bounds (suc s.end) (2 ^ 32) ss r.2 in omega (arith, r.1, end)

covers_from : (from below : ℕ) (ss : List Segment) (n : ℕ) → Rises from below ss → covers ss n ≡ true → from ≤ n
covers_from from below [] n r h = cc
covers_from from below (s ∷ ss) n r h = by (is_inside n s) refl (λ t. covers_from (suc s.end) below ss n r.2 t)
  where
    by : (b : Bool) → is_inside n s ≡ b → (covers ss n ≡ true → suc s.end ≤ n) → from ≤ n
    by true t rest = let low = leb-true s.start n (and_parts (nat_le s.start n) (nat_lt n s.end) t).0 in omega (arith, low, r.0)
    by false t rest = let high = rest (sym (ap (λ b. b || covers ss n) t) ∙ h) in omega (arith, high, r.0, r.1)

-- the numbers of segments with others put behind them
pub covers_more : (old new : List Segment) (s e n : ℕ) → elements new ≡ elements old ++ numbers s e → covers new n ≡ (covers old n || between s e n)
covers_more old new s e n h =
    sym (covers_is new n) ∙ ap (λ ns. is_among ns n) h ∙ list_any-append (λ m. nat_eq n m) (elements old) (numbers s e)
    ∙ ap (λ b. b || is_among (numbers s e) n) (covers_is old n) ∙ ap (λ b. covers old n || b) (among_numbers s e n)

-- ---- both

meet_a : (xs xe ys ye n : ℕ) (o b c : Bool) → (b ≡ true → xe < n) → (c ≡ true → ye < n) → xe < ye
    → ((o || between (max xs ys) (min xe ye) n) || (b && (between ys ye n || c))) ≡ (o || ((between xs xe n || b) && (between ys ye n || c)))
meet_a xs xe ys ye n true b c f g h = refl
meet_a xs xe ys ye n false true true f g h = let p = f refl in let q = g refl in grind (arith, nat_tests)
meet_a xs xe ys ye n false true false f g h = let p = f refl in grind (arith, nat_tests)
meet_a xs xe ys ye n false false true f g h = let q = g refl in grind (arith, nat_tests)
meet_a xs xe ys ye n false false false f g h = grind (arith, nat_tests)

meet_b : (xs xe ys ye n : ℕ) (o b c : Bool) → (b ≡ true → xe < n) → (c ≡ true → ye < n) → ye ≤ xe
    → ((o || between (max xs ys) (min xe ye) n) || ((between xs xe n || b) && c)) ≡ (o || ((between xs xe n || b) && (between ys ye n || c)))
meet_b xs xe ys ye n true b c f g h = refl
meet_b xs xe ys ye n false true true f g h = let p = f refl in let q = g refl in grind (arith, nat_tests)
meet_b xs xe ys ye n false true false f g h = let p = f refl in grind (arith, nat_tests)
meet_b xs xe ys ye n false false true f g h = let q = g refl in grind (arith, nat_tests)
meet_b xs xe ys ye n false false false f g h = grind (arith, nat_tests)

pub common_a : (ss ts old new : List Segment) (s e n : ℕ) → 0 < length ss → 0 < length ts → Rises 0 (2 ^ 32) ss → Rises 0 (2 ^ 32) ts
    → elements new ≡ elements old ++ numbers s e → s ≡ max (first ss).start (first ts).start → e ≡ min (first ss).end (first ts).end → (first ss).end < (first ts).end
    → (covers new n || (covers (drop 1 ss) n && covers ts n)) ≡ (covers old n || (covers ss n && covers ts n))
common_a [] ts old new s e n h g r q more at to less = absurd (omega arith)
common_a (x ∷ xs) [] old new s e n h g r q more at to less = absurd (omega arith)
common_a (x ∷ xs) (y ∷ ys) old new s e n h g r q more at to less =
    rw (covers_more old new s e n more, at, to)
    (meet_a x.start x.end y.start y.end n (covers old n) (covers xs n) (covers ys n) (covers_from (suc x.end) (2 ^ 32) xs n r.2) (covers_from (suc y.end) (2 ^ 32) ys n q.2) less)

pub common_b : (ss ts old new : List Segment) (s e n : ℕ) → 0 < length ss → 0 < length ts → Rises 0 (2 ^ 32) ss → Rises 0 (2 ^ 32) ts
    → elements new ≡ elements old ++ numbers s e → s ≡ max (first ss).start (first ts).start → e ≡ min (first ss).end (first ts).end → (first ts).end ≤ (first ss).end
    → (covers new n || (covers ss n && covers (drop 1 ts) n)) ≡ (covers old n || (covers ss n && covers ts n))
common_b [] ts old new s e n h g r q more at to less = absurd (omega arith)
common_b (x ∷ xs) [] old new s e n h g r q more at to less = absurd (omega arith)
common_b (x ∷ xs) (y ∷ ys) old new s e n h g r q more at to less =
    rw (covers_more old new s e n more, at, to)
    (meet_b x.start x.end y.start y.end n (covers old n) (covers xs n) (covers ys n) (covers_from (suc x.end) (2 ^ 32) xs n r.2) (covers_from (suc y.end) (2 ^ 32) ys n q.2) less)

-- ---- one without the other

less_b : (from xs xe ys ye n : ℕ) (o b c : Bool) → (b ≡ true → xe < n) → (c ≡ true → ye < n) → ys < ye → ye < xe
    → ((o || between (max from xs) (min xe ys) n) || ((nat_le (max from ye) n && (between xs xe n || b)) && not c)) ≡ (o || ((nat_le from n && (between xs xe n || b)) && not (between ys ye n || c)))
less_b from xs xe ys ye n true b c f g k h = refl
less_b from xs xe ys ye n false true true f g k h = let p = f refl in let q = g refl in grind (arith, nat_tests)
less_b from xs xe ys ye n false true false f g k h = let p = f refl in grind (arith, nat_tests)
less_b from xs xe ys ye n false false true f g k h = let q = g refl in grind (arith, nat_tests)
less_b from xs xe ys ye n false false false f g k h = grind (arith, nat_tests)

less_a : (from xs xe stop n : ℕ) (o b c : Bool) → (c ≡ true → stop ≤ n) → (c ≡ false → n < xe → n < stop)
    → ((o || between (max from xs) (min xe stop) n) || ((nat_le from n && b) && not c)) ≡ (o || ((nat_le from n && (between xs xe n || b)) && not c))
less_a from xs xe stop n true b c f g = refl
less_a from xs xe stop n false b true f g = let p = f refl in by b
  where
    by : (b : Bool) → (between (max from xs) (min xe stop) n || ((nat_le from n && b) && false)) ≡ ((nat_le from n && (between xs xe n || b)) && false)
    by true = grind (arith, nat_tests)
    by false = grind (arith, nat_tests)
less_a from xs xe stop n false true false f g = let p = g refl in grind (arith, nat_tests)
less_a from xs xe stop n false false false f g = let p = g refl in grind (arith, nat_tests)

covers_start : (ts : List Segment) (n : ℕ) → Rises 0 (2 ^ 32) ts → covers ts n ≡ true → start_of ts ≤ n
covers_start [] n q h = cc
covers_start (t ∷ ts) n q h = covers_from t.start (2 ^ 32) (t ∷ ts) n (omega arith, q.1, q.2) h

not_covered : (ts : List Segment) (n to : ℕ) → Rises 0 (2 ^ 32) ts → to < 2 ^ 32 → (0 < length ts → to ≤ (first ts).end) → covers ts n ≡ false → n < to → n < start_of ts
not_covered [] n to q h g f l = omega arith
not_covered (t ∷ ts) n to q h g f l =
    let end = g (omega arith) in
    let out : between t.start t.end n ≡ false = (or_parts (between t.start t.end n) (covers ts n) f).0 in
    grind (arith, nat_tests)

pub difference_b : (ss ts old new : List Segment) (from s e n : ℕ) → 0 < length ss → 0 < length ts → Rises 0 (2 ^ 32) ss → Rises 0 (2 ^ 32) ts
    → elements new ≡ elements old ++ numbers s e → s ≡ max from (first ss).start → e ≡ min (first ss).end (start_of ts) → (first ts).end < (first ss).end
    → (covers new n || ((nat_le (max from (first ts).end) n && covers ss n) && not (covers (drop 1 ts) n))) ≡ (covers old n || ((nat_le from n && covers ss n) && not (covers ts n)))
difference_b [] ts old new from s e n h g r q more at to less = absurd (omega arith)
difference_b (x ∷ xs) [] old new from s e n h g r q more at to less = absurd (omega arith)
difference_b (x ∷ xs) (y ∷ ys) old new from s e n h g r q more at to less =
    rw (covers_more old new s e n more, at, to)
    (less_b from x.start x.end y.start y.end n (covers old n) (covers xs n) (covers ys n) (covers_from (suc x.end) (2 ^ 32) xs n r.2) (covers_from (suc y.end) (2 ^ 32) ys n q.2) q.1 less)

pub difference_a : (ss ts old new : List Segment) (from s e n : ℕ) → 0 < length ss → Rises 0 (2 ^ 32) ss → Rises 0 (2 ^ 32) ts
    → elements new ≡ elements old ++ numbers s e → s ≡ max from (first ss).start → e ≡ min (first ss).end (start_of ts) → (0 < length ts → (first ss).end ≤ (first ts).end)
    → (covers new n || ((nat_le from n && covers (drop 1 ss) n) && not (covers ts n))) ≡ (covers old n || ((nat_le from n && covers ss n) && not (covers ts n)))
difference_a [] ts old new from s e n h r q more at to less = absurd (omega arith)
difference_a (x ∷ xs) ts old new from s e n h r q more at to less =
    let end = bounds (suc x.end) (2 ^ 32) xs r.2 in
    rw (covers_more old new s e n more, at, to)
    (less_a from x.start x.end (start_of ts) n (covers old n) (covers xs n) (covers ts n) (covers_start ts n q) (not_covered ts n x.end q (omega (arith, end)) less))

-- ---- the lists of numbers

pub common_is : (ss ts new : List Segment) → Rises 0 (2 ^ 32) ss → Rises 0 (2 ^ 32) new → ((n : ℕ) → covers new n ≡ (covers ss n && covers ts n)) → elements new ≡ both (elements ss) (elements ts)
common_is ss ts new r q h =
    same_rising 0 (2 ^ 32) 0 (2 ^ 32) (elements new) (both (elements ss) (elements ts)) (rising 0 (2 ^ 32) new q) (rising_filter (is_among (elements ts)) 0 (2 ^ 32) (elements ss) (rising 0 (2 ^ 32) ss r))
    (λ n. covers_is new n ∙ h n ∙ ap (λ b. b && covers ts n) (sym (covers_is ss n)) ∙ ap (λ b. is_among (elements ss) n && b) (sym (covers_is ts n)) ∙ sym (among_filter (is_among (elements ts)) (elements ss) n))

pub difference_is : (ss ts new : List Segment) → Rises 0 (2 ^ 32) ss → Rises 0 (2 ^ 32) new → ((n : ℕ) → covers new n ≡ (covers ss n && not (covers ts n))) → elements new ≡ without (elements ss) (elements ts)
difference_is ss ts new r q h =
    let p = λ (n : ℕ). not (is_among (elements ts) n) in
    same_rising 0 (2 ^ 32) 0 (2 ^ 32) (elements new) (without (elements ss) (elements ts)) (rising 0 (2 ^ 32) new q) (rising_filter p 0 (2 ^ 32) (elements ss) (rising 0 (2 ^ 32) ss r))
    (λ n. covers_is new n ∙ h n ∙ ap (λ b. b && not (covers ts n)) (sym (covers_is ss n)) ∙ ap (λ b. is_among (elements ss) n && not b) (sym (covers_is ts n)) ∙ sym (among_filter p (elements ss) n))
