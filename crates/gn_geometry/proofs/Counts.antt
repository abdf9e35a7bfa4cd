-- How many faces and corners a topology has.
use Rattle.std.proofs.Common.{◌≡◌, ℕ, suc, ◌+◌, ◌-◌, ◌≤◌, List, [], ◌∷◌, length, map, drop, refl, sym, ap, ◌∙◌, subst, arith}
use Rattle.std.proofs.lemmas.List.{length-take-le, length-drop}
use Rattle.std.proofs.lemmas.List.Sums.{sum_by-cons}
use Rattle.std.specs.Prelude.{slice_range, sum}
use Rattle.gn_value.specs.declared.vector.V3.{V3}
use Rattle.gn_value.specs.declared.value.Place.TheVariants.{Face, Corner}
use Rattle.gn_plain.specs.Geometry.{count_in}
use Rattle.gn_plain.specs.Topology.{Topology, IsValid, RiseTo, AreOffsets, corners_of, parts_between, shape_of}
use Rattle.gn_plain.proofs.TopologyLemmas.{le_from_RiseTo, length-corners}

-- one part fewer than there are offsets
parts_count : {X : Type 0} (first : ℕ) (offsets : List ℕ) (xs : List X) → length (parts_between (first ∷ offsets) xs) ≡ length offsets
parts_count first [] xs = refl
parts_count first (next ∷ offsets) xs = ap suc (parts_count next offsets xs)

part_length : {X : Type 0} (xs : List X) (a b : ℕ) → a ≤ b → b ≤ length xs → length (slice_range xs a b) ≡ b - a
part_length xs a b ordered within = let n : length (drop a xs) ≡ length xs - a = length-drop a xs in length-take-le (b - a) (drop a xs) (omega (arith, n))

-- the parts have all members from the first offset on
parts_sum : {X : Type 0} (first : ℕ) (offsets : List ℕ) (xs : List X) → RiseTo (length xs) first offsets → first + sum (map length (parts_between (first ∷ offsets) xs)) ≡ length xs
parts_sum first [] xs rise = omega (arith, rise)
parts_sum first (next ∷ offsets) xs rise =
    let below = le_from_RiseTo (length xs) next offsets rise.1 in
    let here = part_length xs first next (omega (arith, rise.0)) below in
    let rest = parts_sum next offsets xs rise.1 in
    let split = sum_by-cons (λ n. n) (length (slice_range xs first next)) (map length (parts_between (next ∷ offsets) xs)) in
    omega (arith, here, rest, split, below, rise.0)

faces_count : {X : Type 0} (count : ℕ) (offsets : List ℕ) (xs : List X) → AreOffsets count offsets → length (parts_between offsets xs) ≡ length offsets - 1
faces_count count [] xs rise = absurd rise
faces_count count (first ∷ offsets) xs rise = parts_count first offsets xs ∙ (let n : length offsets ≡ suc (length offsets) - 1 = omega arith in n)

corners_count : {X : Type 0} (offsets : List ℕ) (xs : List X) → AreOffsets (length xs) offsets → sum (map length (parts_between offsets xs)) ≡ length xs
corners_count [] xs rise = absurd rise
corners_count (first ∷ offsets) xs rise = let all = parts_sum first offsets xs rise.1 in omega (arith, all, rise.0)

pub face_count : (points : List V3) (t : Topology) → IsValid t → count_in (shape_of points t) Face ≡ length t.faces - 1
face_count points t valid = faces_count (length t.corner_points) t.faces (corners_of t) valid.offsets

pub corner_count : (points : List V3) (t : Topology) → IsValid t → count_in (shape_of points t) Corner ≡ length t.corner_points
corner_count points t valid =
    let many = length-corners t.corner_points t.corner_edges valid.paired in
    corners_count t.faces (corners_of t) (subst (λ n. AreOffsets n t.faces) (sym many) valid.offsets) ∙ many
