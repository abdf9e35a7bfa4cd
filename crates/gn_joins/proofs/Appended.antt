-- The shape of a mesh whose lists stand behind those of another.
use Rattle.std.proofs.Common.{◌≡◌, ℕ, suc, ◌+◌, nat_lt, if◌then◌else◌, Bool, true, false, List, [], ◌∷◌, ◌++◌, length, map, drop, fold, refl, sym, ap, subst, ◌∙◌, arith}
use Rattle.std.proofs.lemmas.Bool.Decides.{nat_tests}
use Rattle.std.proofs.lemmas.List.{length-drop}
use Rattle.std.specs.List.{zip}
use Rattle.std.specs.Prelude.{slice_range}
use Rattle.gn_value.specs.declared.vector.V3.{V3}
use Rattle.gn_plain.specs.Edges.{Edge, edge_between, edges_along, edges_around}
use Rattle.gn_plain.specs.Geometry.{Corner, Shape, empty_shape}
use Rattle.gn_plain.specs.Topology.{Topology, IsValid, RiseTo, AreOffsets, edge_of, corner_of, corners_of, parts_between, faces_of, shape_of, vertices_of}
use Rattle.gn_plain.proofs.TopologyLemmas.{le_from_RiseTo, length-corners}
use Rattle.gn_joins.specs.Joins.{edge_behind, corner_behind, shape_behind, joined_shape}
use Rattle.gn_joins.specs.Appended.{ends_behind, appended}
use Rattle.gn_joins.proofs.Moved.{map_both, range_map, range_behind, range_front}

-- ---- edges and corners

edges_up : (n : ℕ) (es : List (ℕ × ℕ)) → map edge_of (map (ends_behind n) es) ≡ map (edge_behind n) (map edge_of es)
edges_up n [] = refl
edges_up n (e ∷ es) = ap (λ l. edge_behind n (edge_of e) ∷ l) (edges_up n es)

corners_both : (vs ks vs' ks' : List ℕ) → length vs ≡ length ks → map corner_of (zip (vs ++ vs') (ks ++ ks')) ≡ map corner_of (zip vs ks) ++ map corner_of (zip vs' ks')
corners_both [] [] vs' ks' e = refl
corners_both [] (k ∷ ks) vs' ks' e = absurd (omega (arith, e))
corners_both (v ∷ vs) [] vs' ks' e = absurd (omega (arith, e))
corners_both (v ∷ vs) (k ∷ ks) vs' ks' e = ap (λ l. corner_of (v, k) ∷ l) (corners_both vs ks vs' ks' (omega (arith, e)))

corners_up : (n m : ℕ) (vs ks : List ℕ) → map corner_of (zip (map (λ v. v + n) vs) (map (λ k. k + m) ks)) ≡ map (corner_behind n m) (map corner_of (zip vs ks))
corners_up n m [] ks = refl
corners_up n m (v ∷ vs) [] = refl
corners_up n m (v ∷ vs) (k ∷ ks) = ap (λ l. corner_behind n m (corner_of (v, k)) ∷ l) (corners_up n m vs ks)

-- ---- parts between offsets

module _ {X : Type 0} where
  parts_behind : (xs ys : List X) (a : ℕ) (offsets : List ℕ) → parts_between ((a + length xs) ∷ map (λ o. o + length xs) offsets) (xs ++ ys) ≡ parts_between (a ∷ offsets) ys
  parts_behind xs ys a [] = refl
  parts_behind xs ys a (b ∷ offsets) =
      ap (λ l. l ∷ parts_between ((b + length xs) ∷ map (λ o. o + length xs) offsets) (xs ++ ys)) (range_behind xs ys a b)
      ∙ ap (λ l. slice_range ys a b ∷ l) (parts_behind xs ys b offsets)

  -- the parts of the first list, and those of the second
  parts_both : (xs ys : List X) (first : ℕ) (offsets more : List ℕ) → RiseTo (length xs) first offsets
      → parts_between ((first ∷ offsets) ++ map (λ o. o + length xs) more) (xs ++ ys) ≡ parts_between (first ∷ offsets) xs ++ parts_between (0 ∷ more) ys
  parts_both xs ys first [] more rise =
      let at : first ≡ 0 + length xs = omega (arith, rise) in
      ap (λ n. parts_between (n ∷ map (λ o. o + length xs) more) (xs ++ ys)) at ∙ parts_behind xs ys 0 more
  parts_both xs ys first (next ∷ offsets) more rise =
      let within = le_from_RiseTo (length xs) next offsets rise.1 in
      ap (λ l. l ∷ parts_between ((next ∷ offsets) ++ map (λ o. o + length xs) more) (xs ++ ys)) (range_front xs ys first next (omega (arith, rise.0)) within (length-drop first xs))
      ∙ ap (λ l. slice_range xs first next ∷ l) (parts_both xs ys next offsets more rise.1)

  parts_map : {Y : Type 0} (f : X → Y) (offsets : List ℕ) (xs : List X) → parts_between offsets (map f xs) ≡ map (map f) (parts_between offsets xs)
  parts_map f [] xs = refl
  parts_map f (a ∷ []) xs = refl
  parts_map f (a ∷ b ∷ offsets) xs =
      ap (λ l. l ∷ parts_between (b ∷ offsets) (map f xs)) (range_map f xs a b) ∙ ap (λ l. map f (slice_range xs a b) ∷ l) (parts_map f (b ∷ offsets) xs)

faces_by : (cs ds : List Corner) (f : Corner → Corner) (count more : ℕ) (ts us : List ℕ) → length cs ≡ count → AreOffsets count ts → AreOffsets more us
    → parts_between (ts ++ map (λ o. o + count) (drop 1 us)) (cs ++ map f ds) ≡ parts_between ts cs ++ map (map f) (parts_between us ds)
faces_by cs ds f count more [] us long rise rises = absurd rise
faces_by cs ds f count more (first ∷ ts) [] long rise rises = absurd rises
faces_by cs ds f count more (first ∷ ts) (start ∷ us) long rise rises =
    let rising : RiseTo (length cs) first ts = subst (λ m. RiseTo m first ts) (sym long) rise.1 in
    ap (λ m. parts_between ((first ∷ ts) ++ map (λ o. o + m) us) (cs ++ map f ds)) (sym long)
    ∙ (parts_both cs (map f ds) first ts us rising
    ∙ ap (λ l. parts_between (first ∷ ts) cs ++ l) (ap (λ m. parts_between (m ∷ us) (map f ds)) (sym rises.0) ∙ parts_map f (start ∷ us) ds))

pub corners_appended : (t u : Topology) → length t.corner_points ≡ length t.corner_edges → corners_of (appended t u) ≡ corners_of t ++ map (corner_behind t.points (length t.edges)) (corners_of u)
corners_appended t u paired =
    corners_both t.corner_points t.corner_edges (map (λ v. v + t.points) u.corner_points) (map (λ k. k + length t.edges) u.corner_edges) paired
    ∙ ap (λ l. corners_of t ++ l) (corners_up t.points (length t.edges) u.corner_points u.corner_edges)

pub faces_appended : (t u : Topology) → IsValid t → IsValid u → faces_of (appended t u) ≡ faces_of t ++ map (map (corner_behind t.points (length t.edges))) (faces_of u)
faces_appended t u first second =
    let f = corner_behind t.points (length t.edges) in
    ap (parts_between (t.faces ++ map (λ o. o + length t.corner_points) (drop 1 u.faces))) (corners_appended t u first.paired)
    ∙ faces_by (corners_of t) (corners_of u) f (length t.corner_points) (length u.corner_points) t.faces u.faces (length-corners t.corner_points t.corner_edges first.paired) first.offsets second.offsets

-- ---- shapes

length_edges : (es : List (ℕ × ℕ)) → length (map edge_of es) ≡ length es
length_edges [] = refl
length_edges (e ∷ es) = ap suc (length_edges es)

abbrev behind_by : ℕ → ℕ → Shape → Shape → Shape
behind_by vertices edges s t = record {
  points = s.points ++ t.points;
  edges = s.edges ++ map (edge_behind vertices) t.edges;
  faces = s.faces ++ map (map (corner_behind vertices edges)) t.faces;
}

-- a topology behind another is that of a shape behind a shape
pub shape_appended : (ps qs : List V3) (t u : Topology) → length ps ≡ t.points → IsValid t → IsValid u → shape_of (ps ++ qs) (appended t u) ≡ shape_behind (shape_of ps t) (shape_of qs u)
shape_appended ps qs t u long first second =
    let edges : map edge_of (appended t u).edges ≡ map edge_of t.edges ++ map (edge_behind t.points) (map edge_of u.edges) =
    map_both edge_of t.edges (map (ends_behind t.points) u.edges) ∙ ap (λ l. map edge_of t.edges ++ l) (edges_up t.points u.edges) in
    let faces = faces_appended t u first second in
    let apart : shape_of (ps ++ qs) (appended t u) ≡ behind_by t.points (length t.edges) (shape_of ps t) (shape_of qs u) = λ i. record { points = ps ++ qs; edges = edges i; faces = faces i } in
    apart ∙ (ap (λ n. behind_by n (length t.edges) (shape_of ps t) (shape_of qs u)) (sym long) ∙ ap (λ n. behind_by (length ps) n (shape_of ps t) (shape_of qs u)) (sym (length_edges t.edges)))

fold_more : {A B : Type 0} (f : B → A → B) (b : B) (xs : List A) (x : A) → fold f b (xs ++ x ∷ []) ≡ f (fold f b xs) x
fold_more f b [] x = refl
fold_more f b (y ∷ ys) x = fold_more f (f b y) ys x

-- one more shape goes behind those before it
pub joined_more : (ss : List Shape) (s : Shape) → joined_shape (ss ++ s ∷ []) ≡ shape_behind (joined_shape ss) s
joined_more ss s = fold_more shape_behind empty_shape ss s

-- ---- edges around a face

abbrev choice : ℕ → ℕ → Bool → Edge
choice a b x = if x then record { lesser = b; greater = a } else record { lesser = a; greater = b }

choice_up : (n a b : ℕ) (x : Bool) → choice (a + n) (b + n) x ≡ edge_behind n (choice a b x)
choice_up n a b true = refl
choice_up n a b false = refl

less_up : (n a b : ℕ) → nat_lt (b + n) (a + n) ≡ nat_lt b a
less_up n a b = grind (arith, nat_tests)

between_up : (n a b : ℕ) → edge_between (a + n) (b + n) ≡ edge_behind n (edge_between a b)
between_up n a b = ap (choice (a + n) (b + n)) (less_up n a b) ∙ choice_up n a b (nat_lt b a)

along_up : (n : ℕ) (vs : List ℕ) → edges_along (map (λ v. v + n) vs) ≡ map (edge_behind n) (edges_along vs)
along_up n [] = refl
along_up n (a ∷ []) = refl
along_up n (a ∷ b ∷ vs) = let rest = along_up n (b ∷ vs) in let here = between_up n a b in λ i. here i ∷ rest i

pub around_up : (n : ℕ) (vs : List ℕ) → edges_around (map (λ v. v + n) vs) ≡ map (edge_behind n) (edges_around vs)
around_up n [] = refl
around_up n (a ∷ vs) = ap edges_along (sym (map_both (λ v. v + n) (a ∷ vs) (a ∷ []))) ∙ along_up n ((a ∷ vs) ++ a ∷ [])

pub vertices_up : (n m : ℕ) (cs : List Corner) → vertices_of (map (corner_behind n m) cs) ≡ map (λ v. v + n) (vertices_of cs)
vertices_up n m [] = refl
vertices_up n m (c ∷ cs) = ap (λ l. (c.vertex + n) ∷ l) (vertices_up n m cs)
