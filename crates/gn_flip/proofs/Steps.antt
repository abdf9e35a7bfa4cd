-- The loops that put corners in order.
use Rattle.std.proofs.Common.{◌≡◌, ◌∙◌, ℕ, suc, ◌+◌, ◌-◌, ◌<◌, ◌≤◌, Bool, true, List, [], ◌∷◌, ◌++◌, length, drop, get_or, refl, sym, ap, subst, arith, append_assoc}
use Rattle.std.specs.List.{range_with_len}
use Rattle.std.specs.Prelude.{reverse}
use Rattle.std.proofs.lemmas.List.{append-nil, length-drop, reverse-append}
use Rattle.gn_plain.specs.Geometry.{Corner}
use Rattle.gn_plain.specs.Topology.{Topology, IsValid, RiseTo, faces_of, parts_between}
use Rattle.gn_plain.proofs.TopologyLemmas.{length-corners}
use Rattle.gn_interp.proofs.Corners.{corners_of, next_offset}
use Rattle.gn_flip.specs.Turned.{turned_vertices}
use Rattle.gn_flip.proofs.Lists.{range_more}
use Rattle.gn_flip.proofs.Orders as orders
use Rattle.gn_flip.proofs.Orders.{behind_first, from_zero}

-- ---- numbers in order, and in the opposite order

pub up_none : (first : ℕ) (start : List ℕ) → start ≡ start ++ range_with_len first (first - first)
up_none first start =
    let none : 0 ≡ first - first = omega arith in
    sym (append-nil start) ∙ ap (λ n. start ++ range_with_len first n) none

pub up_step : (first number : ℕ) (start now after : List ℕ) → first ≤ number
    → now ≡ start ++ range_with_len first (number - first) → after ≡ now ++ number ∷ [] → after ≡ start ++ range_with_len first (number + 1 - first)
up_step first number start now after from before added =
    let next : first + (number - first) ≡ number = omega (arith, from) in
    let more : suc (number - first) ≡ number + 1 - first = omega (arith, from) in
    added
    ∙ (ap (λ l. l ++ number ∷ []) before
    ∙ (append_assoc start (range_with_len first (number - first)) (number ∷ [])
    ∙ (ap (λ n. start ++ (range_with_len first (number - first) ++ n ∷ [])) (sym next)
    ∙ (ap (λ l. start ++ l) (sym (range_more first (number - first)))
    ∙ ap (λ n. start ++ range_with_len first n) more))))

down_more : (first m : ℕ) → reverse (range_with_len first (suc m)) ≡ (first + m) ∷ reverse (range_with_len first m)
down_more first m = ap reverse (range_more first m) ∙ reverse-append (range_with_len first m) ((first + m) ∷ [])

pub down_none : (first end : ℕ) (start : List ℕ) → start ++ reverse (range_with_len first (end - first - 0)) ≡ start ++ reverse (range_with_len first (end - first))
down_none first end start =
    let none : end - first - 0 ≡ end - first = omega arith in
    ap (λ n. start ++ reverse (range_with_len first n)) none

pub down_step : (first end above : ℕ) (all now after : List ℕ) → above < end - first
    → now ++ reverse (range_with_len first (end - first - above)) ≡ all → after ≡ now ++ (end - 1 - above) ∷ [] → after ++ reverse (range_with_len first (end - first - (above + 1))) ≡ all
down_step first end above all now after within before added =
    let m = end - first - (above + 1) in
    let one_more : suc m ≡ end - first - above = omega (arith, within) in
    let here : first + m ≡ end - 1 - above = omega (arith, within) in
    ap (λ l. l ++ reverse (range_with_len first m)) added
    ∙ (append_assoc now ((end - 1 - above) ∷ []) (reverse (range_with_len first m))
    ∙ (ap (λ l. now ++ l) (ap (λ n. n ∷ reverse (range_with_len first m)) (sym here) ∙ (sym (down_more first m) ∙ ap (λ n. reverse (range_with_len first n)) one_more))
    ∙ before))

pub down_all : (first end above : ℕ) (all now : List ℕ) → end - first ≤ above → now ++ reverse (range_with_len first (end - first - above)) ≡ all → now ≡ all
down_all first end above all now past before =
    let none : 0 ≡ end - first - above = omega (arith, past) in
    sym (append-nil now) ∙ (ap (λ n. now ++ reverse (range_with_len first n)) none ∙ before)

-- ---- the corners of one face

pub first_stays : (first end : ℕ) (turned : Bool) (start now after : List ℕ) → turned ≡ true → first < end → now ≡ start ++ first ∷ []
    → after ≡ now ++ reverse (range_with_len (first + 1) (end - (first + 1))) → after ≡ start ++ turned_vertices turned (range_with_len first (end - first))
first_stays first end turned start now after is_turned some pushed added =
    let behind = end - (first + 1) in
    let many : suc behind ≡ end - first = omega (arith, some) in
    added
    ∙ (ap (λ l. l ++ reverse (range_with_len (first + 1) behind)) pushed
    ∙ (append_assoc start (first ∷ []) (reverse (range_with_len (first + 1) behind))
    ∙ (ap (λ n. start ++ turned_vertices true (range_with_len first n)) many
    ∙ ap (λ t. start ++ turned_vertices t (range_with_len first (end - first))) (sym is_turned))))

-- ---- the faces

module _ (t : Topology) (valid : IsValid t) (selected : List Bool) (as_many : length selected + 1 ≡ length t.faces) where
  abbrev cs : List Corner
  cs = corners_of t.corner_points t.corner_edges

  many : length cs ≡ length t.corner_points
  many = length-corners t.corner_points t.corner_edges valid.paired

  -- where the next face ends
  pub next : (i first : ℕ) → i < length selected → RiseTo (length t.corner_points) first (drop i (drop 1 t.faces))
      → (first + 3 ≤ get_or t.faces (i + 1) 0) × (get_or t.faces (i + 1) 0 ≤ length t.corner_points) × RiseTo (length t.corner_points) (get_or t.faces (i + 1) 0) (drop (i + 1) (drop 1 t.faces))
  next i first within rise =
      let below : i < length (drop 1 t.faces) = omega (arith, within, as_many, length-drop 1 t.faces) in
      next_offset (length t.corner_points) first (get_or t.faces (i + 1) 0) (drop 1 t.faces) i below (behind_first t.faces i (get_or t.faces (i + 1) 0) refl) rise

  module _ (piece : ℕ → List ℕ → List ℕ) (order : ℕ → ℕ → List (List Corner) → List ℕ) (none : (k first : ℕ) → order k first [] ≡ []) (one_more : (k first : ℕ) (face : List Corner) (faces : List (List Corner)) → order k first (face ∷ faces) ≡ piece k (range_with_len first (length face)) ++ order (suc k) (first + length face) faces) where
    pub none_yet : (items : List ℕ) → items ≡ [] → items ++ order 0 0 (parts_between (0 ∷ drop 0 (drop 1 t.faces)) cs) ≡ order 0 0 (faces_of t)
    none_yet items empty =
        ap (λ l. l ++ order 0 0 (parts_between (0 ∷ drop 1 t.faces) cs)) empty
        ∙ ap (λ faces. order 0 0 (parts_between faces cs)) (sym (from_zero (length t.corner_points) t.faces valid.offsets).0)

    pub one_more_face : (i first : ℕ) (old done : List ℕ) → i < length selected → RiseTo (length t.corner_points) first (drop i (drop 1 t.faces))
        → done ≡ old ++ piece i (range_with_len first (get_or t.faces (i + 1) 0 - first))
        → old ++ order i first (parts_between (first ∷ drop i (drop 1 t.faces)) cs) ≡ order 0 0 (faces_of t)
        → done ++ order (i + 1) (get_or t.faces (i + 1) 0) (parts_between (get_or t.faces (i + 1) 0 ∷ drop (i + 1) (drop 1 t.faces)) cs) ≡ order 0 0 (faces_of t)
    one_more_face i first old done within rise adds so_far =
        let end = get_or t.faces (i + 1) 0 in
        let below : i < length (drop 1 t.faces) = omega (arith, within, as_many, length-drop 1 t.faces) in
        let following : suc i ≡ i + 1 = omega arith in
        subst (λ n. done ++ order n end (parts_between (end ∷ drop (i + 1) (drop 1 t.faces)) cs) ≡ order 0 0 (faces_of t)) following
        (orders.step piece order none one_more i first end (drop 1 t.faces) cs old done (order 0 0 (faces_of t)) below (behind_first t.faces i end refl)
        (subst (λ n. RiseTo n first (drop i (drop 1 t.faces))) (sym many) rise) adds so_far)

    pub all_faces : (i first : ℕ) (items : List ℕ) → length selected ≤ i → items ++ order i first (parts_between (first ∷ drop i (drop 1 t.faces)) cs) ≡ order 0 0 (faces_of t) → items ≡ order 0 0 (faces_of t)
    all_faces i first items past so_far =
        let behind : length (drop 1 t.faces) ≤ i = omega (arith, past, as_many, length-drop 1 t.faces) in
        orders.done piece order none one_more i first (drop 1 t.faces) cs items (order 0 0 (faces_of t)) behind so_far
