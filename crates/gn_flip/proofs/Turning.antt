-- The lists of a mesh in which faces are turned over.
use Rattle.std.proofs.Common.{◌≡◌, ◌≢◌, ◌∙◌, ℕ, zero, suc, ◌+◌, ◌-◌, ◌<◌, ◌≤◌, ◌^◌, Bool, true, false, List, [], ◌∷◌, ◌++◌, cond, length, map, take, get_or, refl, sym, ap, ap₂, subst, arith, append_assoc}
use Rattle.std.specs.List.{All, AllPairs, range_with_len, zip}
use Rattle.std.specs.Prelude.{reverse, slice_range, if◌then◌else◌}
use Rattle.std.proofs.lemmas.List.{drop_at, take_at, length-append, length-map, length-reverse, map-append}
use Rattle.std.proofs.lemmas.List.Elements.{All-cons, All-head, All-tail, All-map, All-nil, All-weaker}
use Rattle.std.proofs.lemmas.List.FromFn.{length-range_with_len}
use Rattle.gn_plain.specs.Geometry.{Corner}
use Rattle.gn_plain.specs.Topology.{Topology, IsValid, IsNumbered, IsJoined, RiseTo, AreOffsets, corner_of, parts_between, faces_of, vertices_of}
use Rattle.gn_plain.proofs.TopologyLemmas.{length-corners}
use Rattle.gn_interp.proofs.Corners.{corners_of, range_is}
use Rattle.gn_geometry_rows.specs.Flips.{corner_order, flipped_faces, turned_over}
use Rattle.gn_flip.specs.Turned.{edge_order, turned_edges, with_corners, turned_vertices}
use Rattle.gn_flip.proofs.Lists.{all_reverse, get_range, map_reverse, range_below, zip_append}
use Rattle.gn_flip.proofs.Orders as orders
use Rattle.gn_flip.proofs.Faces.{turned_corners, turned_differ, turned_joined}

-- ---- the pieces of one face

length_vertices : (s : Bool) (a n : ℕ) → length (turned_vertices s (range_with_len a n)) ≡ n
length_vertices false a n = length-range_with_len a n
length_vertices true a zero = refl
length_vertices true a (suc n) = omega (arith, length-reverse (range_with_len (a + 1) n), length-range_with_len (a + 1) n)

length_edges : (s : Bool) (a n : ℕ) → length (turned_edges s (range_with_len a n)) ≡ n
length_edges false a n = length-range_with_len a n
length_edges true a n = length-reverse (range_with_len a n) ∙ length-range_with_len a n

vertices_below : (s : Bool) (a n bound : ℕ) → a + n ≤ bound → All (λ j. j < bound) (turned_vertices s (range_with_len a n))
vertices_below false a n bound within = range_below a n bound within
vertices_below true a zero bound within = All-nil (λ j. j < bound)
vertices_below true a (suc n) bound within =
    All-cons (λ j. j < bound) a (reverse (range_with_len (a + 1) n)) (omega (arith, within))
    (all_reverse (λ j. j < bound) (range_with_len (a + 1) n) (range_below (a + 1) n bound (omega (arith, within))))

edges_below : (s : Bool) (a n bound : ℕ) → a + n ≤ bound → All (λ j. j < bound) (turned_edges s (range_with_len a n))
edges_below false a n bound within = range_below a n bound within
edges_below true a n bound within = all_reverse (λ j. j < bound) (range_with_len a n) (range_below a n bound within)

-- the number of a corner by way of its place
abbrev pub at_number : List ℕ → ℕ → ℕ
at_number xs k = get_or xs k 0

-- the corners of a face in their new order
piece : (cp ce : List ℕ) (s : Bool) (a n : ℕ)
    → corners_of (map (at_number cp) (turned_vertices s (range_with_len a n))) (map (at_number ce) (turned_edges s (range_with_len a n)))
    ≡ (if s then turned_over (corners_of (map (at_number cp) (range_with_len a n)) (map (at_number ce) (range_with_len a n))) else corners_of (map (at_number cp) (range_with_len a n)) (map (at_number ce) (range_with_len a n)))
piece cp ce false a n = refl
piece cp ce true a zero = refl
piece cp ce true a (suc n) =
    let behind = range_with_len (a + 1) n in
    let vertex = at_number cp in
    let edge = at_number ce in
    ap₂ (λ vs ks. corners_of (vertex a ∷ vs) ks) (map_reverse vertex behind) (map_reverse edge (a ∷ behind))
    ∙ sym (turned_corners (vertex a) (edge a) (map vertex behind) (map edge behind) (length-map behind vertex ∙ sym (length-map behind edge)))

-- ---- all faces

module _ (cp ce : List ℕ) (paired : length cp ≡ length ce) (is_selected : ℕ → Bool) where
  abbrev cs : List Corner
  cs = corners_of cp ce

  abbrev parts : ℕ → List ℕ → List (List Corner)
  parts a offsets = parts_between (a ∷ offsets) cs

  abbrev new_points : ℕ → ℕ → List (List Corner) → List ℕ
  new_points k a faces = map (at_number cp) (corner_order is_selected k a faces)

  abbrev new_edges : ℕ → ℕ → List (List Corner) → List ℕ
  new_edges k a faces = map (at_number ce) (edge_order is_selected k a faces)

  many : length cs ≡ length cp
  many = length-corners cp ce paired

  is_part : (a b : ℕ) → a ≤ b → b ≤ length cs → corners_of (map (at_number cp) (range_with_len a (b - a))) (map (at_number ce) (range_with_len a (b - a))) ≡ slice_range cs a b
  is_part a b ordered within =
      ap₂ corners_of (get_range cp 0 a (b - a) (omega (arith, within, ordered, many))) (get_range ce 0 a (b - a) (omega (arith, within, ordered, many, paired)))
      ∙ sym (range_is cp ce a b)

  joined_lists : (ps qs es fs : List ℕ) → length ps ≡ length es → corners_of (map (at_number cp) (ps ++ qs)) (map (at_number ce) (es ++ fs)) ≡ corners_of (map (at_number cp) ps) (map (at_number ce) es) ++ corners_of (map (at_number cp) qs) (map (at_number ce) fs)
  joined_lists ps qs es fs e =
      let vertex = at_number cp in
      let edge = at_number ce in
      ap₂ corners_of (map-append vertex ps qs) (map-append edge es fs)
      ∙ (ap (map corner_of) (zip_append (map vertex ps) (map edge es) (map vertex qs) (map edge fs) (length-map ps vertex ∙ (e ∙ sym (length-map es edge))))
      ∙ map-append corner_of (zip (map vertex ps) (map edge es)) (zip (map vertex qs) (map edge fs)))

  turned_parts : (before : List Corner) (k a : ℕ) (offsets : List ℕ) → length before ≡ a → RiseTo (length cs) a offsets
      → parts_between (a ∷ offsets) (before ++ corners_of (new_points k a (parts a offsets)) (new_edges k a (parts a offsets))) ≡ flipped_faces is_selected k (parts a offsets)
  turned_parts before k a [] long rise = refl
  turned_parts before k a (b ∷ offsets) long rise =
      let n = b - a in
      let ps = turned_vertices (is_selected k) (range_with_len a n) in
      let es = turned_edges (is_selected k) (range_with_len a n) in
      let behind = parts b offsets in
      let within : b ≤ length cs = omega (arith, orders.as_many (λ j r. turned_vertices (is_selected j) r) (corner_order is_selected) (λ j first. refl) (λ j first face faces. refl) (λ j first m. length_vertices (is_selected j) first m) (suc k) b offsets cs rise.1) in
      let points_split = orders.split (λ j r. turned_vertices (is_selected j) r) (corner_order is_selected) (λ j first. refl) (λ j first face faces. refl) k a b offsets cs rise.0 within in
      let edges_split = orders.split (λ j r. turned_edges (is_selected j) r) (edge_order is_selected) (λ j first. refl) (λ j first face faces. refl) k a b offsets cs rise.0 within in
      let here = corners_of (map (at_number cp) ps) (map (at_number ce) es) in
      let rest = corners_of (new_points (suc k) b behind) (new_edges (suc k) b behind) in
      let same_long : length ps ≡ length es = length_vertices (is_selected k) a n ∙ sym (length_edges (is_selected k) a n) in
      let all : corners_of (new_points k a (parts a (b ∷ offsets))) (new_edges k a (parts a (b ∷ offsets))) ≡ here ++ rest =
      ap₂ (λ us vs. corners_of (map (at_number cp) us) (map (at_number ce) vs)) points_split edges_split
      ∙ joined_lists ps (corner_order is_selected (suc k) b behind) es (edge_order is_selected (suc k) b behind) same_long in
      let here_long : length here ≡ n =
      length-corners (map (at_number cp) ps) (map (at_number ce) es) (length-map ps (at_number cp) ∙ (same_long ∙ sym (length-map es (at_number ce))))
      ∙ (length-map ps (at_number cp) ∙ length_vertices (is_selected k) a n) in
      let ends : length (before ++ here) ≡ b = omega (arith, length-append before here, long, here_long, rise.0) in
      let cut : slice_range (before ++ (here ++ rest)) a b ≡ here =
      ap (take n) (drop_at before (here ++ rest) a long) ∙ take_at here rest n here_long in
      let face : here ≡ (if is_selected k then turned_over (slice_range cs a b) else slice_range cs a b) =
      piece cp ce (is_selected k) a n ∙ ap (λ part. cond (is_selected k) (turned_over part) part) (is_part a b (omega (arith, rise.0)) within) in
      let others : parts_between (b ∷ offsets) (before ++ (here ++ rest)) ≡ flipped_faces is_selected (suc k) behind =
      ap (parts_between (b ∷ offsets)) (sym (append_assoc before here rest)) ∙ turned_parts (before ++ here) (suc k) b offsets ends rise.1 in
      ap (λ l. parts_between (a ∷ b ∷ offsets) (before ++ l)) all ∙ (λ i. (cut ∙ face) i ∷ others i)

  flipped_all : (Q : List Corner → Type 0) → ((face : List Corner) → Q face → Q (turned_over face)) → (k : ℕ) (faces : List (List Corner)) → All Q faces → All Q (flipped_faces is_selected k faces)
  flipped_all Q turned k [] all = All-nil Q
  flipped_all Q turned k (face ∷ faces) all =
      All-cons Q (if is_selected k then turned_over face else face) (flipped_faces is_selected (suc k) faces)
      (one (is_selected k) face (All-head Q face faces all))
      (flipped_all Q turned (suc k) faces (All-tail Q face faces all))
    where
      one : (s : Bool) (face : List Corner) → Q face → Q (if s then turned_over face else face)
      one true face q = turned face q
      one false face q = q

-- ---- the mesh

module _ (t : Topology) (valid : IsValid t) (is_selected : ℕ → Bool) where
  abbrev points_of : List ℕ
  points_of = map (at_number t.corner_points) (corner_order is_selected 0 0 (faces_of t))

  abbrev edges_of : List ℕ
  edges_of = map (at_number t.corner_edges) (edge_order is_selected 0 0 (faces_of t))

  abbrev all_corners : List Corner
  all_corners = corners_of t.corner_points t.corner_edges

  abbrev count : ℕ
  count = length t.corner_points

  -- what holds where offsets rise from 0 holds of the faces
  from_first : (P : List ℕ → Type 0) → ((offsets : List ℕ) → RiseTo (length all_corners) 0 offsets → P (0 ∷ offsets)) → P t.faces
  from_first P holds = by t.faces valid.offsets
    where
      by : (faces : List ℕ) → AreOffsets count faces → P faces
      by [] none = absurd none
      by (first ∷ offsets) rises =
          let many : length all_corners ≡ count = length-corners t.corner_points t.corner_edges valid.paired in
          subst (λ n. P (n ∷ offsets)) (sym rises.0) (holds offsets (subst (λ n. RiseTo n 0 offsets) (sym many) (subst (λ n. RiseTo count n offsets) rises.0 rises.1)))

  from_nothing : {n m : ℕ} → 0 + n ≡ m → n ≡ m
  from_nothing e = omega (arith, e)

  pub faces_turned : faces_of (with_corners t points_of edges_of) ≡ flipped_faces is_selected 0 (faces_of t)
  faces_turned =
      from_first
      (λ faces. parts_between faces (corners_of (map (at_number t.corner_points) (corner_order is_selected 0 0 (parts_between faces all_corners))) (map (at_number t.corner_edges) (edge_order is_selected 0 0 (parts_between faces all_corners)))) ≡ flipped_faces is_selected 0 (parts_between faces all_corners))
      (λ offsets rise. turned_parts t.corner_points t.corner_edges valid.paired is_selected [] 0 0 offsets refl rise)

  points_long : length points_of ≡ count
  points_long =
      length-map (corner_order is_selected 0 0 (faces_of t)) (at_number t.corner_points)
      ∙ (from_first (λ faces. length (corner_order is_selected 0 0 (parts_between faces all_corners)) ≡ length all_corners)
      (λ offsets rise. from_nothing (orders.as_many (λ j r. turned_vertices (is_selected j) r) (corner_order is_selected) (λ j first. refl) (λ j first face faces. refl) (λ j first m. length_vertices (is_selected j) first m) 0 0 offsets all_corners rise))
      ∙ length-corners t.corner_points t.corner_edges valid.paired)

  edges_long : length edges_of ≡ count
  edges_long =
      length-map (edge_order is_selected 0 0 (faces_of t)) (at_number t.corner_edges)
      ∙ (from_first (λ faces. length (edge_order is_selected 0 0 (parts_between faces all_corners)) ≡ length all_corners)
      (λ offsets rise. from_nothing (orders.as_many (λ j r. turned_edges (is_selected j) r) (edge_order is_selected) (λ j first. refl) (λ j first face faces. refl) (λ j first m. length_edges (is_selected j) first m) 0 0 offsets all_corners rise))
      ∙ length-corners t.corner_points t.corner_edges valid.paired)

  points_below : All (λ j. j < length all_corners) (corner_order is_selected 0 0 (faces_of t))
  points_below =
      from_first (λ faces. All (λ j. j < length all_corners) (corner_order is_selected 0 0 (parts_between faces all_corners)))
      (λ offsets rise. orders.all_within (λ j r. turned_vertices (is_selected j) r) (corner_order is_selected) (λ j first. refl) (λ j first face faces. refl) (λ j first m bound. vertices_below (is_selected j) first m bound) (λ j first m. length_vertices (is_selected j) first m) 0 0 offsets all_corners rise)

  edges_all_below : All (λ j. j < length all_corners) (edge_order is_selected 0 0 (faces_of t))
  edges_all_below =
      from_first (λ faces. All (λ j. j < length all_corners) (edge_order is_selected 0 0 (parts_between faces all_corners)))
      (λ offsets rise. orders.all_within (λ j r. turned_edges (is_selected j) r) (edge_order is_selected) (λ j first. refl) (λ j first face faces. refl) (λ j first m bound. edges_below (is_selected j) first m bound) (λ j first m. length_edges (is_selected j) first m) 0 0 offsets all_corners rise)

  pub valid_turned : IsValid (with_corners t points_of edges_of)
  valid_turned =
      let many : length all_corners ≡ count = length-corners t.corner_points t.corner_edges valid.paired in
      record {
        lesser_first = valid.lesser_first;
        edges_within = valid.edges_within;
        edges_differ = valid.edges_differ;
        paired = points_long ∙ sym edges_long;
        corner_points_within = All-map (λ v. v < t.points) (at_number t.corner_points) (corner_order is_selected 0 0 (faces_of t))
            (All-weaker (λ j. j < length all_corners) (λ j. at_number t.corner_points j < t.points) (λ j below. valid.corner_points_within j 0 (omega (arith, below, many))) (corner_order is_selected 0 0 (faces_of t)) points_below);
        corner_edges_within = All-map (λ k. k < length t.edges) (at_number t.corner_edges) (edge_order is_selected 0 0 (faces_of t))
            (All-weaker (λ j. j < length all_corners) (λ j. at_number t.corner_edges j < length t.edges) (λ j below. valid.corner_edges_within j 0 (omega (arith, below, many, valid.paired))) (edge_order is_selected 0 0 (faces_of t)) edges_all_below);
        offsets = subst (λ n. AreOffsets n t.faces) (sym points_long) valid.offsets;
        vertices_differ = subst (All (λ f. AllPairs (λ a b. a ≢ b) (vertices_of f))) (sym faces_turned)
            (flipped_all t.corner_points t.corner_edges valid.paired is_selected (λ f. AllPairs (λ a b. a ≢ b) (vertices_of f)) turned_differ 0 (faces_of t) valid.vertices_differ);
        joined = subst (All (IsJoined t.edges)) (sym faces_turned)
            (flipped_all t.corner_points t.corner_edges valid.paired is_selected (IsJoined t.edges) (turned_joined t.edges) 0 (faces_of t) valid.joined);
      }

  pub numbered_turned : IsNumbered t → IsNumbered (with_corners t points_of edges_of)
  numbered_turned numbered = record {
    points = numbered.points;
    edges = numbered.edges;
    corner_points = subst (λ n. n < 2 ^ 32) (sym points_long) numbered.corner_points;
    corner_edges = subst (λ n. n < 2 ^ 32) (sym edges_long) numbered.corner_points;
    faces = numbered.faces;
  }

  -- lists that have these faces are those of a mesh
  pub record IsTurned (points edges : List ℕ) : Type 0 where
    pub faces_are : faces_of (with_corners t points edges) ≡ flipped_faces is_selected 0 (faces_of t)
    pub keeps_valid : IsValid (with_corners t points edges)
    pub keeps_numbered : IsNumbered t → IsNumbered (with_corners t points edges)

  pub is_turned : (corners links points edges : List ℕ) → corners ≡ corner_order is_selected 0 0 (faces_of t) → links ≡ edge_order is_selected 0 0 (faces_of t)
      → points ≡ map (at_number t.corner_points) corners → edges ≡ map (at_number t.corner_edges) links → IsTurned points edges
  is_turned corners links points edges in_order linked picked_points picked_edges =
      let at_points : points_of ≡ points = sym (picked_points ∙ ap (map (at_number t.corner_points)) in_order) in
      let at_edges : edges_of ≡ edges = sym (picked_edges ∙ ap (map (at_number t.corner_edges)) linked) in
      subst (λ ps. IsTurned ps edges) at_points (subst (IsTurned points_of) at_edges (record { faces_are = faces_turned; keeps_valid = valid_turned; keeps_numbered = numbered_turned }))
