-- The order in which the corners of all faces come.
use Rattle.std.proofs.Common.{◌≡◌, ◌∙◌, ℕ, suc, ◌+◌, ◌-◌, ◌<◌, ◌≤◌, List, [], ◌∷◌, ◌++◌, length, drop, get_or, sym, ap, ap₂, subst, arith, append_assoc}
use Rattle.std.specs.List.{All, range_with_len}
use Rattle.std.specs.Prelude.{slice_range}
use Rattle.std.proofs.lemmas.List.{append-nil, drop_all, drop_more, get_or-drop, length-append}
use Rattle.std.proofs.lemmas.List.Elements.{All-nil, All-append}
use Rattle.gn_plain.specs.Geometry.{Corner}
use Rattle.gn_plain.specs.Topology.{AreOffsets, RiseTo, parts_between}
use Rattle.gn_interp.proofs.Corners.{next_offset, range_length}

-- an order that puts pieces of the faces' corners behind one another
module _ (piece : ℕ → List ℕ → List ℕ) (order : ℕ → ℕ → List (List Corner) → List ℕ) (none : (k first : ℕ) → order k first [] ≡ []) (one_more : (k first : ℕ) (face : List Corner) (faces : List (List Corner)) → order k first (face ∷ faces) ≡ piece k (range_with_len first (length face)) ++ order (suc k) (first + length face) faces) where
  -- a face's piece, and those of the faces behind it
  pub split : (k first end : ℕ) (offsets : List ℕ) (cs : List Corner) → first + 3 ≤ end → end ≤ length cs
      → order k first (parts_between (first ∷ end ∷ offsets) cs) ≡ piece k (range_with_len first (end - first)) ++ order (suc k) end (parts_between (end ∷ offsets) cs)
  split k first end offsets cs wide within =
      let long : length (slice_range cs first end) ≡ end - first = range_length cs first end (omega (arith, wide)) within in
      let behind : first + length (slice_range cs first end) ≡ end = omega (arith, long, wide) in
      one_more k first (slice_range cs first end) (parts_between (end ∷ offsets) cs)
      ∙ ap₂ (λ m n. piece k (range_with_len first m) ++ order (suc k) n (parts_between (end ∷ offsets) cs)) long behind

  -- one more face is done
  pub step : (k first end : ℕ) (ends : List ℕ) (cs : List Corner) (old done all : List ℕ)
      → k < length ends → end ≡ get_or ends k 0 → RiseTo (length cs) first (drop k ends)
      → done ≡ old ++ piece k (range_with_len first (end - first))
      → old ++ order k first (parts_between (first ∷ drop k ends) cs) ≡ all
      → done ++ order (suc k) end (parts_between (end ∷ drop (k + 1) ends) cs) ≡ all
  step k first end ends cs old done all within at rise adds so_far =
      let steps = next_offset (length cs) first end ends k within at rise in
      let cut : drop k ends ≡ end ∷ drop (k + 1) ends = drop_more ends k 0 within ∙ ap (λ n. n ∷ drop (k + 1) ends) (sym at) in
      let here = piece k (range_with_len first (end - first)) in
      let rest = order (suc k) end (parts_between (end ∷ drop (k + 1) ends) cs) in
      ap (λ l. l ++ rest) adds
      ∙ (append_assoc old here rest
      ∙ (ap (λ l. old ++ l) (sym (ap (λ l. order k first (parts_between (first ∷ l) cs)) cut ∙ split k first end (drop (k + 1) ends) cs steps.0 steps.1)) ∙ so_far))

  -- all faces are done
  pub done : (k first : ℕ) (ends : List ℕ) (cs : List Corner) (items all : List ℕ) → length ends ≤ k → items ++ order k first (parts_between (first ∷ drop k ends) cs) ≡ all → items ≡ all
  done k first ends cs items all past so_far =
      sym (append-nil items)
      ∙ (ap (λ l. items ++ l) (sym (ap (λ l. order k first (parts_between (first ∷ l) cs)) (drop_all k ends past) ∙ none k first)) ∙ so_far)

  -- as many as there are corners
  pub as_many : ((k first n : ℕ) → length (piece k (range_with_len first n)) ≡ n) → (k first : ℕ) (offsets : List ℕ) (cs : List Corner) → RiseTo (length cs) first offsets → first + length (order k first (parts_between (first ∷ offsets) cs)) ≡ length cs
  as_many each k first [] cs rise =
      let nothing : length (order k first []) ≡ 0 = ap (λ (l : List ℕ). length l) (none k first) in
      omega (arith, nothing, rise)
  as_many each k first (end ∷ offsets) cs rise =
      let within : end ≤ length cs = omega (arith, as_many each (suc k) end offsets cs rise.1) in
      let here = piece k (range_with_len first (end - first)) in
      let rest = order (suc k) end (parts_between (end ∷ offsets) cs) in
      let all : length (order k first (parts_between (first ∷ end ∷ offsets) cs)) ≡ length here + length rest =
      ap (λ (l : List ℕ). length l) (split k first end offsets cs rise.0 within) ∙ length-append here rest in
      omega (arith, all, each k first (end - first), as_many each (suc k) end offsets cs rise.1, rise.0)

  -- each is the number of a corner
  pub all_within : ((k first n bound : ℕ) → first + n ≤ bound → All (λ j. j < bound) (piece k (range_with_len first n))) → ((k first n : ℕ) → length (piece k (range_with_len first n)) ≡ n)
      → (k first : ℕ) (offsets : List ℕ) (cs : List Corner) → RiseTo (length cs) first offsets → All (λ j. j < length cs) (order k first (parts_between (first ∷ offsets) cs))
  all_within below each k first [] cs rise = subst (All (λ j. j < length cs)) (sym (none k first)) (All-nil (λ j. j < length cs))
  all_within below each k first (end ∷ offsets) cs rise =
      let within : end ≤ length cs = omega (arith, as_many each (suc k) end offsets cs rise.1) in
      subst (All (λ j. j < length cs)) (sym (split k first end offsets cs rise.0 within))
      (All-append (λ j. j < length cs) (piece k (range_with_len first (end - first))) (order (suc k) end (parts_between (end ∷ offsets) cs))
      (below k first (end - first) (length cs) (omega (arith, within, rise.0)))
      (all_within below each (suc k) end offsets cs rise.1))

-- ---- offsets

-- the first is 0, and the others rise from there
pub from_zero : (count : ℕ) (offsets : List ℕ) → AreOffsets count offsets → (offsets ≡ 0 ∷ drop 1 offsets) × RiseTo count 0 (drop 1 offsets)
from_zero count [] none = absurd none
from_zero count (first ∷ offsets) rises = (ap (λ n. n ∷ offsets) rises.0, subst (λ n. RiseTo count n offsets) rises.0 rises.1)

pub behind_first : (offsets : List ℕ) (k end : ℕ) → end ≡ get_or offsets (k + 1) 0 → end ≡ get_or (drop 1 offsets) k 0
behind_first offsets k end is =
    let next : k + 1 ≡ 1 + k = omega arith in
    is ∙ (ap (λ n. get_or offsets n 0) next ∙ sym (get_or-drop 1 offsets k 0))
