-- Interpolation reads no element past the end of the place that it comes from.
use Rattle.std.proofs.Common.{◌≡◌, ℕ, suc, ◌+◌, ◌-◌, ◌<◌, ◌≤◌, Bool, true, false, List, [], ◌∷◌, ◌++◌, length, map, drop, fold, flat_map, refl, sym, ap, ap₂, subst, ◌∙◌, arith, cond}
use Rattle.std.specs.List.{All}
use Rattle.std.specs.Prelude.{slice_range, filter, if◌then◌else◌, nat_eq}
use Rattle.std.proofs.lemmas.List.Elements.{All-nil, All-cons, All-head, All-tail, All-append, All-take, All-drop, All-map, All-filter, All-weaker}
use Rattle.gn_value.specs.declared.value.Value.{Value}
use Rattle.gn_value.specs.declared.value.ValueKind.{ValueKind}
use Rattle.gn_value.specs.declared.value.Place.{Place}
use Rattle.gn_value.specs.declared.value.Place.TheVariants.{Point, Edge, Face, Corner, Cloud, Instance}
use Rattle.gn_plain.specs.Equality.{same_place}
use Rattle.gn_plain.specs.Geometry as geometry
use Rattle.gn_plain.specs.Topology.{Topology, IsValid, RiseTo, AreOffsets, corner_of, edge_of, parts_between}
use Rattle.gn_plain.specs.Interpolation.{Taking, Touching, touching, along_edges, corners, corners_on, corners_from, last_edge, takings, turned, taken_by, sources, combined, one_suffices, interpolated}
use Rattle.gn_plain.proofs.TopologyLemmas.{le_from_RiseTo, length-corners}
use Rattle.gn_interp.specs.Takings.{unplaced}
use Rattle.gn_plain.specs.Columns.{Values, kind_of_values, count_of_values, value_of}
use Rattle.gn_interp.specs.Gathered.{count_on, ValuesAreGathered, IsAdapted}
use Rattle.gn_interp.proofs.Corners.{corners_of, range_length}
use Rattle.gn_interp.proofs.ByKind.{places_same, gathered_kind, gathered_value}

abbrev pub Below : ℕ → ℕ → Type 0
Below n k = k < n

module _ (t : Topology) where
  -- a corner touches parts of the mesh
  record IsWithin (c : Touching) : Type 0 where
    pub vertex : c.vertex < t.points
    pub edge : c.edge < length t.edges
    pub edge_before : c.edge_before < length t.edges
    pub face : c.face < length t.faces - 1
    pub corner : c.corner < length t.corner_points
    pub next : c.next < length t.corner_points

  -- ---- corners

  abbrev IsCorner : geometry.Corner → Type 0
  IsCorner c = (c.vertex < t.points) × (c.edge < length t.edges)

  corners_in : (vs ks : List ℕ) → All (Below t.points) vs → All (Below (length t.edges)) ks → All IsCorner (corners_of vs ks)
  corners_in [] ks a b = All-nil IsCorner
  corners_in (v ∷ vs) [] a b = All-nil IsCorner
  corners_in (v ∷ vs) (k ∷ ks) a b =
      All-cons IsCorner (corner_of (v, k)) (corners_of vs ks) (All-head (Below t.points) v vs a, All-head (Below (length t.edges)) k ks b)
      (corners_in vs ks (All-tail (Below t.points) v vs a) (All-tail (Below (length t.edges)) k ks b))

  on_within : (face first corner before : ℕ) (cs : List geometry.Corner) → face < length t.faces - 1 → first < length t.corner_points → before < length t.edges → corner + length cs ≤ length t.corner_points → All IsCorner cs
      → All IsWithin (corners_on face first corner before cs)
  on_within face first corner before [] f n b many all = All-nil IsWithin
  on_within face first corner before (c ∷ []) f n b many all =
      let here = All-head IsCorner c [] all in
      All-cons IsWithin (touching face corner before first c) [] (record { vertex = here.0; edge = here.1; edge_before = b; face = f; corner = omega (arith, many); next = n }) (All-nil IsWithin)
  on_within face first corner before (c ∷ d ∷ cs) f n b many all =
      let here = All-head IsCorner c (d ∷ cs) all in
      All-cons IsWithin (touching face corner before (suc corner) c) (corners_on face first (suc corner) c.edge (d ∷ cs)) (record { vertex = here.0; edge = here.1; edge_before = b; face = f; corner = omega (arith, many); next = omega (arith, many) })
      (on_within face first (suc corner) c.edge (d ∷ cs) f n here.1 (omega (arith, many)) (All-tail IsCorner c (d ∷ cs) all))

  last_within : (k : ℕ) (cs : List geometry.Corner) → k < length t.edges → All IsCorner cs → fold (λ before (c : geometry.Corner). c.edge) k cs < length t.edges
  last_within k [] below all = below
  last_within k (c ∷ cs) below all = last_within c.edge cs (All-head IsCorner c cs all).1 (All-tail IsCorner c cs all)

  face_within : (face first : ℕ) (cs : List geometry.Corner) → face < length t.faces - 1 → first + length cs ≤ length t.corner_points → All IsCorner cs → All IsWithin (corners_on face first first (last_edge cs) cs)
  face_within face first [] f many all = All-nil IsWithin
  face_within face first (c ∷ cs) f many all =
      on_within face first first (last_edge (c ∷ cs)) (c ∷ cs) f (omega (arith, many)) (last_within c.edge cs (All-head IsCorner c cs all).1 (All-tail IsCorner c cs all)) many all

  from_within : (cs : List geometry.Corner) (face first : ℕ) (offsets : List ℕ) → length cs ≡ length t.corner_points → RiseTo (length cs) first offsets → face + length offsets ≤ length t.faces - 1 → All IsCorner cs
      → All IsWithin (corners_from face first (parts_between (first ∷ offsets) cs))
  from_within cs face first [] many rise few all = All-nil IsWithin
  from_within cs face first (next ∷ offsets) many rise few all =
      let part = slice_range cs first next in
      let up : next ≤ length cs = le_from_RiseTo (length cs) next offsets rise.1 in
      let long : length part ≡ next - first = range_length cs first next (omega (arith, rise.0)) up in
      let ends : first + length part ≡ next = omega (arith, long, rise.0) in
      let here = face_within face first part (omega (arith, few)) (omega (arith, ends, up, many)) (All-take IsCorner (next - first) (drop first cs) (All-drop IsCorner first cs all)) in
      let rest = from_within cs (suc face) next offsets many rise.1 (omega (arith, few)) all in
      All-append IsWithin (corners_on face first first (last_edge part) part) (corners_from (suc face) (first + length part) (parts_between (next ∷ offsets) cs)) here
      (subst (λ n. All IsWithin (corners_from (suc face) n (parts_between (next ∷ offsets) cs))) (sym ends) rest)

  corners_within : IsValid t → All IsWithin (corners (unplaced t))
  corners_within valid = by t.faces refl valid.offsets
    where
      by : (faces : List ℕ) → faces ≡ t.faces → AreOffsets (length t.corner_points) faces → All IsWithin (corners_from 0 0 (parts_between faces (corners_of t.corner_points t.corner_edges)))
      by [] e rise = absurd rise
      by (first ∷ offsets) e rise =
          let cs = corners_of t.corner_points t.corner_edges in
          let many = length-corners t.corner_points t.corner_edges valid.paired in
          let rises : RiseTo (length cs) first offsets = subst (λ n. RiseTo n first offsets) (sym many) rise.1 in
          let faces = ap length e in
          let few : 0 + length offsets ≤ length t.faces - 1 = omega (arith, faces) in
          subst (λ n. All IsWithin (corners_from 0 n (parts_between (first ∷ offsets) cs))) rise.0
          (from_within cs 0 first offsets many rises few (corners_in t.corner_points t.corner_edges valid.corner_points_within valid.corner_edges_within))

  -- ---- pairs

  -- the second of a pair is an element of the place
  abbrev IsTaken : Place → Taking → Type 0
  IsTaken from p = p.1 < count_on t from

  one_each : (from : Place) (f : Touching → Taking) → ((c : Touching) → IsWithin c → IsTaken from (f c)) → (cs : List Touching) → All IsWithin cs → All (IsTaken from) (map f cs)
  one_each from f taken cs all = All-map (IsTaken from) f cs (All-weaker IsWithin (λ c. IsTaken from (f c)) taken cs all)

  two_each : (from : Place) (f g : Touching → Taking) → ((c : Touching) → IsWithin c → IsTaken from (f c) × IsTaken from (g c)) → (cs : List Touching) → All IsWithin cs → All (IsTaken from) (flat_map (λ c. f c ∷ g c ∷ []) cs)
  two_each from f g taken [] all = All-nil (IsTaken from)
  two_each from f g taken (c ∷ cs) all =
      let rest = two_each from f g taken cs (All-tail IsWithin c cs all) in
      let here = taken c (All-head IsWithin c cs all) in
      All-cons (IsTaken from) (f c) (g c ∷ flat_map (λ d. f d ∷ g d ∷ []) cs) here.0 (All-cons (IsTaken from) (g c) (flat_map (λ d. f d ∷ g d ∷ []) cs) here.1 rest)

  abbrev Rises : ℕ × ℕ → Type 0
  Rises e = e.0 < e.1

  abbrev Ends : ℕ × ℕ → Type 0
  Ends e = e.1 < t.points

  vertices_within : (k : ℕ) (es : List (ℕ × ℕ)) → All Rises es → All Ends es → All (IsTaken Point) (along_edges k (map edge_of es))
  vertices_within k [] rise end = All-nil (IsTaken Point)
  vertices_within k (e ∷ es) rise end =
      let rises = All-head Rises e es rise in
      let ends = All-head Ends e es end in
      let rest = along_edges (suc k) (map edge_of es) in
      All-cons (IsTaken Point) (k, e.0) ((k, e.1) ∷ rest) (omega (arith, rises, ends)) (All-cons (IsTaken Point) (k, e.1) rest ends (vertices_within (suc k) es (All-tail Rises e es rise) (All-tail Ends e es end)))

  edges_within : (k : ℕ) (es : List (ℕ × ℕ)) → k + length es ≤ length t.edges → All (IsTaken Edge) (turned (along_edges k (map edge_of es)))
  edges_within k [] few = All-nil (IsTaken Edge)
  edges_within k (e ∷ es) few =
      let here : k < length t.edges = omega (arith, few) in
      let rest = turned (along_edges (suc k) (map edge_of es)) in
      All-cons (IsTaken Edge) (e.0, k) ((e.1, k) ∷ rest) here (All-cons (IsTaken Edge) (e.1, k) rest here (edges_within (suc k) es (omega (arith, few))))

  takings_within : IsValid t → (from to : Place) → All (IsTaken from) (takings from to (unplaced t))
  takings_within valid Point Edge = vertices_within 0 t.edges valid.lesser_first valid.edges_within
  takings_within valid Point Face = one_each Point (λ c. (c.face, c.vertex)) (λ c w. w.vertex) (corners (unplaced t)) (corners_within valid)
  takings_within valid Point Corner = one_each Point (λ c. (c.corner, c.vertex)) (λ c w. w.vertex) (corners (unplaced t)) (corners_within valid)
  takings_within valid Edge Point = edges_within 0 t.edges (omega arith)
  takings_within valid Edge Face = one_each Edge (λ c. (c.face, c.edge)) (λ c w. w.edge) (corners (unplaced t)) (corners_within valid)
  takings_within valid Edge Corner = two_each Edge (λ c. (c.corner, c.edge)) (λ c. (c.corner, c.edge_before)) (λ c w. (w.edge, w.edge_before)) (corners (unplaced t)) (corners_within valid)
  takings_within valid Face Point = one_each Face (λ c. (c.vertex, c.face)) (λ c w. w.face) (corners (unplaced t)) (corners_within valid)
  takings_within valid Face Edge = one_each Face (λ c. (c.edge, c.face)) (λ c w. w.face) (corners (unplaced t)) (corners_within valid)
  takings_within valid Face Corner = one_each Face (λ c. (c.corner, c.face)) (λ c w. w.face) (corners (unplaced t)) (corners_within valid)
  takings_within valid Corner Point = one_each Corner (λ c. (c.vertex, c.corner)) (λ c w. w.corner) (corners (unplaced t)) (corners_within valid)
  takings_within valid Corner Edge = two_each Corner (λ c. (c.edge, c.corner)) (λ c. (c.edge, c.next)) (λ c w. (w.corner, w.next)) (corners (unplaced t)) (corners_within valid)
  takings_within valid Corner Face = one_each Corner (λ c. (c.face, c.corner)) (λ c w. w.corner) (corners (unplaced t)) (corners_within valid)
  takings_within valid from to = All-nil (IsTaken from)

  sources_within : IsValid t → (from to : Place) (i : ℕ) → All (Below (count_on t from)) (sources from to (unplaced t) i)
  sources_within valid from to i =
      let pairs = takings from to (unplaced t) in
      let of_it : Taking → Bool = λ p. nat_eq p.0 i in
      All-map (Below (count_on t from)) (λ (p : Taking). p.1) (filter of_it pairs) (All-filter of_it (IsTaken from) pairs (takings_within valid from to))

-- ---- values

pub same_values : (n : ℕ) (f g : ℕ → Value) (js : List ℕ) → ((j : ℕ) → j < n → f j ≡ g j) → All (Below n) js → map f js ≡ map g js
same_values n f g [] same all = refl
same_values n f g (j ∷ js) same all = ap₂ (λ v vs. v ∷ vs) (same j (All-head (Below n) j js all)) (same_values n f g js same (All-tail (Below n) j js all))

-- values that agree on the elements of a place are the same on another
pub same_interpolated : (t : Topology) (kind : ValueKind) (from to : Place) (f g : ℕ → Value) (i : ℕ) → IsValid t → i < count_on t to → ((j : ℕ) → j < count_on t from → f j ≡ g j)
    → interpolated (unplaced t) kind from to f i ≡ interpolated (unplaced t) kind from to g i
same_interpolated t kind from to f g i valid within same = by (same_place from to) refl
  where
    by : (b : Bool) → same_place from to ≡ b
        → (if b then f i else combined kind (one_suffices from to) (map f (sources from to (unplaced t) i))) ≡ (if b then g i else combined kind (one_suffices from to) (map g (sources from to (unplaced t) i)))
    by true h = same i (subst (λ p. i < count_on t p) (sym (places_same from to h)) within)
    by false h = ap (combined kind (one_suffices from to)) (same_values (count_on t from) f g (sources from to (unplaced t) i) same (sources_within t valid from to i))

-- ---- columns

module _ (t : Topology) (from to : Place) (before after : Values) where
  pub is_adapted : IsValid t → same_place from to ≡ false → count_of_values before ≡ count_on t from → count_of_values after ≡ count_on t to → ValuesAreGathered (one_suffices from to) (takings from to (unplaced t)) before after
      → IsAdapted (unplaced t) from to (count_on t to) before after
  is_adapted valid differ counts many gathered =
      let one = one_suffices from to in
      let pairs = takings from to (unplaced t) in
      let kind = kind_of_values before in
      let own : (i : ℕ) → i < count_on t to → value_of after i ≡ interpolated (unplaced t) kind from to (value_of before) i =
      λ i below. rw differ (gathered_value one pairs i before after gathered (rw many below)) in
      record {
        kind = gathered_kind one pairs before after gathered;
        many = many;
        values = λ value extends i below. own i below ∙ sym (same_interpolated t kind from to value (value_of before) i valid below (λ j within. extends j (subst (λ n. j < n) (sym counts) within)));
      }

  -- a place to itself
  pub is_same : same_place from to ≡ true → after ≡ before → count_of_values before ≡ count_on t from → IsAdapted (unplaced t) from to (count_on t to) before after
  is_same same equal counts =
      let many : count_of_values before ≡ count_on t to = counts ∙ ap (count_on t) (places_same from to same) in
      record {
        kind = ap kind_of_values equal;
        many = ap count_of_values equal ∙ many;
        values = λ value extends i below. rw same (ap (λ vs. value_of vs i) equal ∙ sym (extends i (subst (λ n. i < n) (sym many) below)));
      }
