-- What is left of segments that are cut, and the parts.
use Rattle.std.proofs.Common.{◌≡◌, ℕ, zero, suc, ◌+◌, ◌-◌, ◌<◌, ◌≤◌, ◌^◌, List, [], ◌∷◌, ◌++◌, length, get_or, take, drop, refl, sym, ap, subst, ◌∙◌, arith}
use Rattle.std.specs.List.{All, flat_map, range_with_len}
use Rattle.std.proofs.lemmas.List.{append_assoc, drop_more}
use Rattle.gn_mask.specs.declared.segment.Segment.{Segment}
use Rattle.gn_mask.specs.Numbers.{numbers}
use Rattle.gn_mask.specs.Segments.{elements, elements_from, rest, start_of, IsIn, IsAt, Rises}
use Rattle.gn_mask.proofs.Segments.{bounds, rises_drop}

take_whole : (a n k : ℕ) (ys : List ℕ) → take (n + k) (range_with_len a n ++ ys) ≡ range_with_len a n ++ take k ys
take_whole a zero k ys = let e : 0 + k ≡ k = omega arith in ap (λ j. take j ys) e
take_whole a (suc n) k ys =
    let e : suc n + k ≡ suc (n + k) = omega arith in
    ap (λ j. take j (a ∷ (range_with_len (a + 1) n ++ ys))) e ∙ ap (λ ns. a ∷ ns) (take_whole (a + 1) n k ys)

drop_whole : (a n k : ℕ) (ys : List ℕ) → drop (n + k) (range_with_len a n ++ ys) ≡ drop k ys
drop_whole a zero k ys = let e : 0 + k ≡ k = omega arith in ap (λ j. drop j ys) e
drop_whole a (suc n) k ys =
    let e : suc n + k ≡ suc (n + k) = omega arith in
    ap (λ j. drop j (a ∷ (range_with_len (a + 1) n ++ ys))) e ∙ drop_whole (a + 1) n k ys

take_within : (a n k : ℕ) (ys : List ℕ) → k ≤ n → take k (range_with_len a n ++ ys) ≡ range_with_len a k
take_within a n zero ys h = refl
take_within a zero (suc k) ys h = absurd (omega arith)
take_within a (suc n) (suc k) ys h = ap (λ ns. a ∷ ns) (take_within (a + 1) n k ys (omega arith))

drop_within : (a n k : ℕ) (ys : List ℕ) → k ≤ n → drop k (range_with_len a n ++ ys) ≡ range_with_len (a + k) (n - k) ++ ys
drop_within a n zero ys h = let e : a + 0 ≡ a = omega arith in let f : n - 0 ≡ n = omega arith in rw (e, f) refl
drop_within a zero (suc k) ys h = absurd (omega arith)
drop_within a (suc n) (suc k) ys h =
    let e : a + suc k ≡ (a + 1) + k = omega arith in
    let f : suc n - suc k ≡ n - k = omega arith in
    rw (e, f) (drop_within (a + 1) n k ys (omega arith))

-- ---- what is left

pub is_in_start : (below : ℕ) (ts : List Segment) → Rises 0 below ts → IsIn (start_of ts) ts
is_in_start below [] r = tt
is_in_start below (t ∷ ts) r = (omega arith, omega (arith, r.1))

pub rest_start : (ts : List Segment) → elements_from (start_of ts) ts ≡ elements ts
rest_start [] = refl
rest_start (t ∷ ts) = refl

-- what is left from the segment at an index on
pub rest_at : (ss : List Segment) (i from : ℕ) (d : Segment) → i < length ss → rest ss i from ≡ numbers from (get_or ss i d).end ++ elements (drop (i + 1) ss)
rest_at ss i from d h = ap (elements_from from) (drop_more ss i d h)

pub is_at_in : (ss : List Segment) (i from : ℕ) (d : Segment) → i < length ss → IsAt ss i from → ((get_or ss i d).start ≤ from) × (from ≤ (get_or ss i d).end)
is_at_in ss i from d h at = subst (λ ts. IsIn from ts) (drop_more ss i d h) at

-- where the segment behind starts
pub next_start : (ss : List Segment) (i : ℕ) (d : Segment) → Rises 0 (2 ^ 32) ss → i < length ss → ((get_or ss i d).end ≤ start_of (drop (i + 1) ss)) × ((get_or ss i d).end < 2 ^ 32)
next_start ss i d r h =
    let here = subst (λ ts. Rises 0 (2 ^ 32) ts) (drop_more ss i d h) (rises_drop 0 (2 ^ 32) i ss r) in
    by (get_or ss i d) (drop (i + 1) ss) here.2
  where
    by : (s : Segment) (ts : List Segment) → Rises (suc s.end) (2 ^ 32) ts → (s.end ≤ start_of ts) × (s.end < 2 ^ 32)
    by s [] r = (omega arith, omega arith)
    by s (t ∷ ts) r = let end = bounds (suc s.end) (2 ^ 32) (t ∷ ts) r in (omega (arith, r.0), omega (arith, end))

-- one segment more is taken whole
pub taken_whole : (from end left : ℕ) (part ys : List ℕ) → end - from ≤ left → part ++ take left (numbers from end ++ ys) ≡ (part ++ numbers from end) ++ take (left - (end - from)) ys
taken_whole from end left part ys h =
    let e : left ≡ (end - from) + (left - (end - from)) = omega arith in
    ap (λ k. part ++ take k (numbers from end ++ ys)) e ∙ ap (λ ns. part ++ ns) (take_whole from (end - from) (left - (end - from)) ys) ∙ sym (append_assoc part (numbers from end) (take (left - (end - from)) ys))

pub kept_whole : (from end left : ℕ) (ys : List ℕ) → end - from ≤ left → drop left (numbers from end ++ ys) ≡ drop (left - (end - from)) ys
kept_whole from end left ys h =
    let e : left ≡ (end - from) + (left - (end - from)) = omega arith in
    ap (λ k. drop k (numbers from end ++ ys)) e ∙ drop_whole from (end - from) (left - (end - from)) ys

-- the front of a segment is taken
pub taken_front : (from end left : ℕ) (ys : List ℕ) → left ≤ end - from → take left (numbers from end ++ ys) ≡ numbers from (from + left)
taken_front from end left ys h =
    let e : from + left - from ≡ left = omega arith in
    take_within from (end - from) left ys h ∙ ap (λ k. range_with_len from k) (sym e)

pub kept_front : (from end left : ℕ) (ys : List ℕ) → left ≤ end - from → drop left (numbers from end ++ ys) ≡ numbers (from + left) end ++ ys
kept_front from end left ys h =
    let e : end - from - left ≡ end - (from + left) = omega arith in
    drop_within from (end - from) left ys h ∙ ap (λ k. range_with_len (from + left) k ++ ys) e

-- ---- the parts

pub record AreCut (size left : ℕ) (ns rest : List ℕ) (parts : List (List ℕ)) : Type 0 where
  pub counted : left ≡ length rest
  pub follow : flat_map (λ part. part) parts ++ rest ≡ ns
  pub each : 0 < left → (k : ℕ) → k < length parts → length (get_or parts k []) ≡ size
  pub full : (k : ℕ) → k + 1 < length parts → length (get_or parts k []) ≡ size
  pub bounded : All (λ part. (0 < length part) × (length part ≤ size)) parts
