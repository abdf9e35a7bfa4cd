-- The lists of a mesh behind those of another are those of a mesh.
use Rattle.std.proofs.Common.{◌≡◌, ◌≢◌, ℕ, suc, ◌+◌, ◌-◌, ◌<◌, List, [], ◌∷◌, ◌++◌, length, map, drop, get_or, refl, sym, ap, subst, ◌∙◌, arith}
use Rattle.std.specs.List.{All, AllPairs, zip}
use Rattle.std.specs.Prelude.{slice_range}
use Rattle.std.proofs.lemmas.List.{length-append, length-map, get_or-append-add, get_or_append_left}
use Rattle.std.proofs.lemmas.List.Elements.{All-append, All-cons, All-drop, All-head, All-map, All-nil, All-tail, All-take, All-weaker}
use Rattle.std.proofs.lemmas.List.Kept.{AllPairs-cons}
use Rattle.gn_plain.specs.Edges.{edges_around}
use Rattle.gn_plain.specs.Geometry.{Corner}
use Rattle.gn_plain.specs.Topology.{Topology, IsValid, IsJoined, RiseTo, AreOffsets, edge_of, edge_at, corner_of, corners_of, parts_between, faces_of, vertices_of}
use Rattle.gn_joins.specs.Joins.{edge_behind, corner_behind}
use Rattle.gn_joins.specs.Appended.{ends_behind, appended}
use Rattle.gn_joins.proofs.Moved.{get_map}
use Rattle.gn_joins.proofs.Appended.{around_up, faces_appended, vertices_up}

-- ---- pairs of members

module _ {X : Type 0} (R : X → X → Type 0) where
  pairs_append : (xs ys : List X) → AllPairs R xs → AllPairs R ys → All (λ x. All (R x) ys) xs → AllPairs R (xs ++ ys)
  pairs_append [] ys first second across = second
  pairs_append (x ∷ xs) ys first second across =
      let head : All (R x) xs = λ j d lt. first 0 (suc j) d (omega arith) (omega (arith, lt)) in
      let tail : AllPairs R xs = λ i j d lt within. first (suc i) (suc j) d (omega (arith, lt)) (omega (arith, within)) in
      let beyond : All (R x) ys = All-head (λ y. All (R y) ys) x xs across in
      AllPairs-cons R x (xs ++ ys) (All-append (R x) xs ys head beyond) (pairs_append xs ys tail second (All-tail (λ y. All (R y) ys) x xs across))

module _ {X Y : Type 0} (f : X → Y) (injective : (a b : X) → f a ≡ f b → a ≡ b) where
  pairs_map : (xs : List X) → AllPairs (λ a b. a ≢ b) xs → AllPairs (λ a b. a ≢ b) (map f xs)
  pairs_map [] differ = λ i j d lt within. absurd (omega (arith, within))
  pairs_map (x ∷ xs) differ =
      let head : All (λ y. f x ≢ f y) xs = λ j d lt same. differ 0 (suc j) d (omega arith) (omega (arith, lt)) (injective x (get_or xs j d) same) in
      let tail : AllPairs (λ a b. a ≢ b) xs = λ i j d lt within. differ (suc i) (suc j) d (omega (arith, lt)) (omega (arith, within)) in
      AllPairs-cons (λ a b. a ≢ b) (f x) (map f xs) (All-map (λ z. f x ≢ z) f xs head) (pairs_map xs tail)

-- ---- edges

abbrev Ends : Type 0
Ends = ℕ × ℕ

ends_injective : (n : ℕ) (a b : Ends) → ends_behind n a ≡ ends_behind n b → a ≡ b
ends_injective n a b same =
    let first : a.0 + n ≡ b.0 + n = ap (λ (p : Ends). p.0) same in
    let second : a.1 + n ≡ b.1 + n = ap (λ (p : Ends). p.1) same in
    let x : a.0 ≡ b.0 = omega (arith, first) in
    let y : a.1 ≡ b.1 = omega (arith, second) in
    λ i. (x i, y i)

number_injective : (n a b : ℕ) → a + n ≡ b + n → a ≡ b
number_injective n a b same = omega (arith, same)

edges_apart : (n : ℕ) (xs ys : List Ends) → All (λ e. e.1 < n) xs → All (λ x. All (λ z. x ≢ z) (map (ends_behind n) ys)) xs
edges_apart n xs ys within =
    All-weaker (λ (e : Ends). e.1 < n) (λ x. All (λ z. x ≢ z) (map (ends_behind n) ys))
    (λ x below. All-map (λ z. x ≢ z) (ends_behind n) ys (λ j d lt same. beyond x (get_or ys j d) below same)) xs within
  where
    beyond : (x y : Ends) → x.1 < n → x ≡ ends_behind n y → ⊥
    beyond x y below same = let at : x.1 ≡ y.1 + n = ap (λ (p : Ends). p.1) same in omega (arith, at, below)

edges_within : (n m : ℕ) (xs ys : List Ends) → All (λ e. e.1 < n) xs → All (λ e. e.1 < m) ys → All (λ e. e.1 < n + m) (xs ++ map (ends_behind n) ys)
edges_within n m xs ys first second =
    All-append (λ (e : Ends). e.1 < n + m) xs (map (ends_behind n) ys)
    (All-weaker (λ (e : Ends). e.1 < n) (λ e. e.1 < n + m) (λ e h. omega (arith, h)) xs first)
    (All-map (λ (e : Ends). e.1 < n + m) (ends_behind n) ys (All-weaker (λ (e : Ends). e.1 < m) (λ e. e.1 + n < n + m) (λ e h. omega (arith, h)) ys second))

lesser_first : (n : ℕ) (xs ys : List Ends) → All (λ e. e.0 < e.1) xs → All (λ e. e.0 < e.1) ys → All (λ e. e.0 < e.1) (xs ++ map (ends_behind n) ys)
lesser_first n xs ys first second =
    All-append (λ (e : Ends). e.0 < e.1) xs (map (ends_behind n) ys) first
    (All-map (λ (e : Ends). e.0 < e.1) (ends_behind n) ys (All-weaker (λ (e : Ends). e.0 < e.1) (λ e. e.0 + n < e.1 + n) (λ e h. omega (arith, h)) ys second))

numbers_within : (n m : ℕ) (xs ys : List ℕ) → All (λ k. k < n) xs → All (λ k. k < m) ys → All (λ k. k < n + m) (xs ++ map (λ k. k + n) ys)
numbers_within n m xs ys first second =
    All-append (λ k. k < n + m) xs (map (λ k. k + n) ys)
    (All-weaker (λ k. k < n) (λ k. k < n + m) (λ k h. omega (arith, h)) xs first)
    (All-map (λ k. k < n + m) (λ k. k + n) ys (All-weaker (λ k. k < m) (λ k. k + n < n + m) (λ k h. omega (arith, h)) ys second))

-- ---- offsets

rise_up : (to more a : ℕ) (us : List ℕ) → RiseTo more a us → RiseTo (to + more) (a + to) (map (λ o. o + to) us)
rise_up to more a [] rise = omega (arith, rise)
rise_up to more a (next ∷ us) rise = (omega (arith, rise.0), rise_up to more next us rise.1)

rise_both : (to more first : ℕ) (ts us : List ℕ) → RiseTo to first ts → RiseTo more 0 us → RiseTo (to + more) first (ts ++ map (λ o. o + to) us)
rise_both to more first [] us rise rises =
    let at : 0 + to ≡ first = omega (arith, rise) in
    subst (λ m. RiseTo (to + more) m (map (λ o. o + to) us)) at (rise_up to more 0 us rises)
rise_both to more first (next ∷ ts) us rise rises = (rise.0, rise_both to more next ts us rise.1 rises)

offsets_both : (count more : ℕ) (ts us : List ℕ) → AreOffsets count ts → AreOffsets more us → AreOffsets (count + more) (ts ++ map (λ o. o + count) (drop 1 us))
offsets_both count more [] us rise rises = absurd rise
offsets_both count more (first ∷ ts) [] rise rises = absurd rises
offsets_both count more (first ∷ ts) (start ∷ us) rise rises = (rise.0, rise_both count more first ts us rise.1 (subst (λ m. RiseTo more m us) rises.0 rises.1))

-- ---- faces

parts_all : {X : Type 0} (P : X → Type 0) (offsets : List ℕ) (xs : List X) → All P xs → All (All P) (parts_between offsets xs)
parts_all P [] xs all = All-nil (All P)
parts_all P (a ∷ []) xs all = All-nil (All P)
parts_all P (a ∷ b ∷ offsets) xs all =
    All-cons (All P) (slice_range xs a b) (parts_between (b ∷ offsets) xs) (All-take P (b - a) (drop a xs) (All-drop P a xs all)) (parts_all P (b ∷ offsets) xs all)

-- the edge of a corner is one of the first `count`
abbrev IsBelow : ℕ → Corner → Type 0
IsBelow count c = c.edge < count

corners_below : (count : ℕ) (vs ks : List ℕ) → All (λ k. k < count) ks → All (IsBelow count) (map corner_of (zip vs ks))
corners_below count [] ks all = All-nil (IsBelow count)
corners_below count (v ∷ vs) [] all = All-nil (IsBelow count)
corners_below count (v ∷ vs) (k ∷ ks) all =
    All-cons (IsBelow count) (corner_of (v, k)) (map corner_of (zip vs ks)) (All-head (λ k. k < count) k ks all) (corners_below count vs ks (All-tail (λ k. k < count) k ks all))

faces_below : (t : Topology) → IsValid t → All (All (IsBelow (length t.edges))) (faces_of t)
faces_below t valid = parts_all (IsBelow (length t.edges)) t.faces (corners_of t) (corners_below (length t.edges) t.corner_points t.corner_edges valid.corner_edges_within)

abbrev none : Ends
none = (0, 0)

-- the edges of the first mesh keep their numbers
kept_edges : (xs ys : List Ends) (face : List Corner) → All (IsBelow (length xs)) face → map (λ c. edge_at (xs ++ ys) c.edge) face ≡ map (λ c. edge_at xs c.edge) face
kept_edges xs ys [] below = refl
kept_edges xs ys (c ∷ cs) below =
    let here = get_or_append_left xs ys none c.edge (All-head (IsBelow (length xs)) c cs below) in
    let rest = kept_edges xs ys cs (All-tail (IsBelow (length xs)) c cs below) in
    λ i. edge_of (here i) ∷ rest i

-- those of the second are behind them
moved_edges : (xs ys : List Ends) (n : ℕ) (face : List Corner) → All (IsBelow (length ys)) face
    → map (λ c. edge_at (xs ++ map (ends_behind n) ys) c.edge) (map (corner_behind n (length xs)) face) ≡ map (edge_behind n) (map (λ c. edge_at ys c.edge) face)
moved_edges xs ys n [] below = refl
moved_edges xs ys n (c ∷ cs) below =
    let order : c.edge + length xs ≡ length xs + c.edge = omega arith in
    let here : get_or (xs ++ map (ends_behind n) ys) (c.edge + length xs) none ≡ ends_behind n (get_or ys c.edge none) =
    ap (λ k. get_or (xs ++ map (ends_behind n) ys) k none) order
    ∙ (get_or-append-add xs (map (ends_behind n) ys) c.edge none ∙ get_map (ends_behind n) ys c.edge none none (All-head (IsBelow (length ys)) c cs below)) in
    let rest = moved_edges xs ys n cs (All-tail (IsBelow (length ys)) c cs below) in
    λ i. edge_of (here i) ∷ rest i

joined_up : (xs ys : List Ends) (n : ℕ) (face : List Corner) → All (IsBelow (length ys)) face → IsJoined ys face → IsJoined (xs ++ map (ends_behind n) ys) (map (corner_behind n (length xs)) face)
joined_up xs ys n face below joined =
    moved_edges xs ys n face below
    ∙ (ap (map (edge_behind n)) joined ∙ (sym (around_up n (vertices_of face)) ∙ ap edges_around (sym (vertices_up n (length xs) face))))

abbrev Differ : List Corner → Type 0
Differ face = AllPairs (λ a b. a ≢ b) (vertices_of face)

differ_up : (n m : ℕ) (face : List Corner) → Differ face → Differ (map (corner_behind n m) face)
differ_up n m face differ = subst (AllPairs (λ a b. a ≢ b)) (sym (vertices_up n m face)) (pairs_map (λ v. v + n) (number_injective n) (vertices_of face) differ)

pub is_valid_appended : (t u : Topology) → IsValid t → IsValid u → IsValid (appended t u)
is_valid_appended t u first second =
    let n = t.points in
    let m = length t.edges in
    let f = corner_behind n m in
    let es = map (ends_behind n) u.edges in
    let faces = faces_appended t u first second in
    let long_edges : length (t.edges ++ es) ≡ m + length u.edges = omega (arith, length-append t.edges es, length-map u.edges (ends_behind n)) in
    let points = length-append t.corner_points (map (λ v. v + n) u.corner_points) in
    let edges = length-append t.corner_edges (map (λ k. k + m) u.corner_edges) in
    let long_points : length (appended t u).corner_points ≡ length t.corner_points + length u.corner_points = omega (arith, points, length-map u.corner_points (λ v. v + n)) in
    let below = faces_below t first in
    let below_too = faces_below u second in
    record {
      lesser_first = lesser_first n t.edges u.edges first.lesser_first second.lesser_first;
      edges_within = edges_within n u.points t.edges u.edges first.edges_within second.edges_within;
      edges_differ = pairs_append (λ a b. a ≢ b) t.edges es first.edges_differ (pairs_map (ends_behind n) (ends_injective n) u.edges second.edges_differ) (edges_apart n t.edges u.edges first.edges_within);
      paired = omega (arith, points, edges, length-map u.corner_points (λ v. v + n), length-map u.corner_edges (λ k. k + m), first.paired, second.paired);
      corner_points_within = numbers_within n u.points t.corner_points u.corner_points first.corner_points_within second.corner_points_within;
      corner_edges_within = subst (λ k. All (λ e. e < k) (appended t u).corner_edges) (sym long_edges) (numbers_within m (length u.edges) t.corner_edges u.corner_edges first.corner_edges_within second.corner_edges_within);
      offsets = subst (λ k. AreOffsets k (appended t u).faces) (sym long_points) (offsets_both (length t.corner_points) (length u.corner_points) t.faces u.faces first.offsets second.offsets);
      vertices_differ = subst (All Differ) (sym faces)
          (All-append Differ (faces_of t) (map (map f) (faces_of u)) first.vertices_differ
          (All-map Differ (map f) (faces_of u) (λ k d lt. differ_up n m (get_or (faces_of u) k d) (second.vertices_differ k d lt))));
      joined = subst (All (IsJoined (t.edges ++ es))) (sym faces)
          (All-append (IsJoined (t.edges ++ es)) (faces_of t) (map (map f) (faces_of u))
          (λ k d lt. let face = get_or (faces_of t) k d in kept_edges t.edges es face (below k d lt) ∙ first.joined k d lt)
          (All-map (IsJoined (t.edges ++ es)) (map f) (faces_of u) (λ k d lt. joined_up t.edges u.edges n (get_or (faces_of u) k d) (below_too k d lt) (second.joined k d lt))));
    }
