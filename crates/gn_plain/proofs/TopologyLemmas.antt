-- Lists that offsets cut into parts, and corners as pairs of numbers.
use Rattle.std.proofs.Common.{◌≡◌, ℕ, ◌≤◌, ◌==◌, Bool, ◌||◌, List, [], ◌∷◌, length, map, drop, not, refl, sym, ap, ◌∙◌, subst, arith}
use Rattle.std.proofs.lemmas.List.{drop_all}
use Rattle.std.proofs.lemmas.List.Folds.{drop_split, list_any-append}
use Rattle.std.specs.List.{list_any, zip}
use Rattle.std.specs.Prelude.{slice_range}
use Rattle.gn_plain.specs.Geometry.{is_loose}
use Rattle.gn_plain.specs.Topology.{Topology, IsValid, RiseTo, AreOffsets, corner_of, corners_of, parts_between, faces_of, shape_of}
use Rattle.gn_value.specs.declared.vector.V3.{V3}

-- offsets that rise end no lower than they begin
pub le_from_RiseTo : (count from : ℕ) (offsets : List ℕ) → RiseTo count from offsets → from ≤ count
le_from_RiseTo count from [] rise = omega arith
le_from_RiseTo count from (next ∷ offsets) rise = omega (arith, le_from_RiseTo count next offsets rise.1)

-- a test passes in some part exactly where it passes in the list
pub any_in_parts : {X : Type 0} (p : X → Bool) (xs : List X) (from : ℕ) (offsets : List ℕ) → RiseTo (length xs) from offsets
    → list_any (λ part. list_any p part) (parts_between (from ∷ offsets) xs) ≡ list_any p (drop from xs)
any_in_parts p xs from [] rise = sym (ap (list_any p) (drop_all from xs (omega arith)))
any_in_parts p xs from (next ∷ offsets) rise =
    ap (λ b. list_any p (slice_range xs from next) || b) (any_in_parts p xs next offsets rise.1)
    ∙ sym (list_any-append p (slice_range xs from next) (drop next xs))
    ∙ sym (ap (list_any p) (drop_split xs from next (omega arith)))

-- the corners of two lists of numbers
pub length-corners : (vs ks : List ℕ) → length vs ≡ length ks → length (map corner_of (zip vs ks)) ≡ length vs
length-corners [] ks e = refl
length-corners (v ∷ vs) [] e = absurd (omega arith)
length-corners (v ∷ vs) (k ∷ ks) e = omega (arith, length-corners vs ks (omega arith))

pub any_corner : (n : ℕ) (vs ks : List ℕ) → length vs ≡ length ks → list_any (λ c. c.edge == n) (map corner_of (zip vs ks)) ≡ list_any (λ k. k == n) ks
any_corner n [] [] e = refl
any_corner n [] (k ∷ ks) e = absurd (omega arith)
any_corner n (v ∷ vs) [] e = absurd (omega arith)
any_corner n (v ∷ vs) (k ∷ ks) e = ap (λ b. (k == n) || b) (any_corner n vs ks (omega arith))

-- the edge of some corner of a face is that of some corner
pub any_in_faces : (t : Topology) (n : ℕ) → AreOffsets (length t.corner_points) t.faces → length t.corner_points ≡ length t.corner_edges
    → list_any (λ face. list_any (λ c. c.edge == n) face) (faces_of t) ≡ list_any (λ k. k == n) t.corner_edges
any_in_faces t n offsets paired = by t.faces offsets
  where
    by : (faces : List ℕ) → AreOffsets (length t.corner_points) faces
        → list_any (λ face. list_any (λ c. c.edge == n) face) (parts_between faces (corners_of t)) ≡ list_any (λ k. k == n) t.corner_edges
    by [] rise = absurd rise
    by (first ∷ rest) rise =
        let count = length-corners t.corner_points t.corner_edges paired in
        let rises : RiseTo (length (corners_of t)) first rest = subst (λ m. RiseTo m first rest) (sym count) rise.1 in
        any_in_parts (λ c. c.edge == n) (corners_of t) first rest rises
        ∙ ap (λ m. list_any (λ c. c.edge == n) (drop m (corners_of t))) rise.0
        ∙ any_corner n t.corner_points t.corner_edges paired

pub is_loose-shape_of : (points : List V3) (t : Topology) (n : ℕ) → IsValid t → is_loose (shape_of points t) n ≡ not (list_any (λ k. k == n) t.corner_edges)
is_loose-shape_of points t n valid = ap not (any_in_faces t n valid.offsets valid.paired)
