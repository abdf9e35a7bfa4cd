-- The lists of a grid are those of a mesh, and its shape is the grid.
use Rattle.std.proofs.Common.{◌≡◌, ◌≢◌, ℕ, zero, suc, ◌+◌, ◌-◌, ◌*◌, ◌<◌, ◌≤◌, ◌^◌, ℤ, cond, List, [], ◌∷◌, ◌++◌, length, map, take, get_or, refl, sym, ap, subst, ◌∙◌, arith}
use Rattle.std.specs.List.{All, AllPairs, range_with_len, flat_map, zip}
use Rattle.std.specs.Prelude.{slice_range}
use Rattle.std.proofs.lemmas.Bool.{lt-ltb, le-ltb}
use Rattle.std.proofs.lemmas.List.{append_assoc, drop_at, take_at, get_or-append-add, get_or_append_left, length-append, length-map, map-append}
use Rattle.std.proofs.lemmas.List.Elements.{All-append, All-from_recursion, All-map, All-nil}
use Rattle.std.proofs.lemmas.List.FromFn.{length-map-range_with_len}
use Rattle.std.proofs.lemmas.List.Kept.{AllPairs-cons}
use Rattle.gn_plain.specs.Edges.{Edge, edge_between}
use Rattle.gn_plain.specs.Geometry.{Corner}
use Rattle.gn_plain.specs.Topology.{IsValid, IsNumbered, IsJoined, RiseTo, edge_of, edge_at, corner_of, parts_between, faces_of, shape_of, vertices_of}
use Rattle.gn_shapes.specs.Grids.{vertex_at, up_from, across_from, up_edge, across_edge, face_at, point_at, cells, grid}
use Rattle.gn_grid.specs.GridLists.{ends, face_cells, up_pair, across_pair, face_vertices, face_edges, edge_pairs, offsets, grid_lists}
use Rattle.gn_grid.proofs.Cells.{pairs_append, pairs_through, all_flat, length_cells, all_cells, pairs_cells, cell_at, place_below, place_rises}

abbrev Pair : Type 0
Pair = ℕ × ℕ

-- ---- an edge between two numbers

between_up : (a b : ℕ) → a < b → edge_between a b ≡ record { lesser = a; greater = b }
between_up a b less = ap (λ t. cond t (record { lesser = b; greater = a }) (record { lesser = a; greater = b })) (le-ltb b a (omega (arith, less)))

between_down : (a b : ℕ) → a < b → edge_between b a ≡ record { lesser = a; greater = b }
between_down a b less = ap (λ t. cond t (record { lesser = a; greater = b }) (record { lesser = b; greater = a })) (lt-ltb a b less)

four_differ : (a b c d : ℕ) → a ≢ b → a ≢ c → a ≢ d → b ≢ c → b ≢ d → c ≢ d → AllPairs (λ x y. x ≢ y) (a ∷ b ∷ c ∷ d ∷ [])
four_differ a b c d ab ac ad bc bd cd =
    let R : ℕ → ℕ → Type 0 = λ x y. x ≢ y in
    AllPairs-cons (λ x y. x ≢ y) a (b ∷ c ∷ d ∷ []) (All-from_recursion (λ y. a ≢ y) (b ∷ c ∷ d ∷ []) (ab, (ac, (ad, tt))))
    (AllPairs-cons (λ x y. x ≢ y) b (c ∷ d ∷ []) (All-from_recursion (λ y. b ≢ y) (c ∷ d ∷ []) (bc, (bd, tt)))
    (AllPairs-cons (λ x y. x ≢ y) c (d ∷ []) (All-from_recursion (λ y. c ≢ y) (d ∷ []) (cd, tt))
    (AllPairs-cons (λ x y. x ≢ y) d [] (All-nil (λ y. d ≢ y)) (λ i j e lt within. absurd (omega (arith, within))))))

rise : (to k n : ℕ) → to ≡ 4 * (k + n) → RiseTo to (4 * k) (map (λ j. 4 * j) (range_with_len (k + 1) n))
rise to k zero e = omega (arith, e)
rise to k (suc n) e = (omega arith, rise to (k + 1) n (omega (arith, e)))

fours : (f : Pair → List ℕ) → ((c : Pair) → length (f c) ≡ 4) → (cs : List Pair) → length (flat_map f cs) ≡ 4 * length cs
fours f each [] = omega arith
fours f each (c ∷ cs) = length-append (f c) (flat_map f cs) ∙ (omega (arith, each c, fours f each cs))

module _ (columns rows : ℕ) where
  -- ---- faces

  corners_all : (cs : List Pair) → map corner_of (zip (flat_map (face_vertices columns rows) cs) (flat_map (face_edges columns rows) cs)) ≡ flat_map (face_at columns rows) cs
  corners_all [] = refl
  corners_all (c ∷ cs) = ap (λ l. face_at columns rows c ++ l) (corners_all cs)

  parts_all : (before : List Corner) (k : ℕ) (cs : List Pair) → length before ≡ 4 * k
      → parts_between (map (λ j. 4 * j) (range_with_len k (suc (length cs)))) (before ++ flat_map (face_at columns rows) cs) ≡ map (face_at columns rows) cs
  parts_all before k [] e = refl
  parts_all before k (c ∷ cs) e =
      let face = face_at columns rows c in
      let behind = flat_map (face_at columns rows) cs in
      let wide : 4 ≡ 4 * (k + 1) - 4 * k = omega arith in
      let long : length (before ++ face) ≡ 4 * (k + 1) = omega (arith, length-append before face, e) in
      let part : slice_range (before ++ (face ++ behind)) (4 * k) (4 * (k + 1)) ≡ face =
      ap (take (4 * (k + 1) - 4 * k)) (drop_at before (face ++ behind) (4 * k) e) ∙ take_at face behind (4 * (k + 1) - 4 * k) wide in
      let rest = ap (parts_between (map (λ j. 4 * j) (range_with_len (k + 1) (suc (length cs))))) (sym (append_assoc before face behind)) ∙ parts_all (before ++ face) (k + 1) cs long in
      λ i. part i ∷ rest i

  pub faces_are : faces_of (grid_lists columns rows) ≡ map (face_at columns rows) (face_cells columns rows)
  faces_are =
      let count : (columns - 1) * (rows - 1) ≡ length (face_cells columns rows) = sym (length_cells 0 (columns - 1) (rows - 1)) in
      (λ i. parts_between (map (λ j. 4 * j) (range_with_len 0 (suc (count i)))) (corners_all (face_cells columns rows) i))
      ∙ parts_all [] 0 (face_cells columns rows) (omega arith)

  -- ---- edges

  length_up : length (map (up_pair columns rows) (cells columns (rows - 1))) ≡ columns * (rows - 1)
  length_up = length-map (cells columns (rows - 1)) (up_pair columns rows) ∙ length_cells 0 columns (rows - 1)

  length_across : length (map (across_pair columns rows) (cells (columns - 1) rows)) ≡ (columns - 1) * rows
  length_across = length-map (cells (columns - 1) rows) (across_pair columns rows) ∙ length_cells 0 (columns - 1) rows

  pub length_edges : length (edge_pairs columns rows) ≡ columns * (rows - 1) + (columns - 1) * rows
  length_edges =
      length-append (map (up_pair columns rows) (cells columns (rows - 1))) (map (across_pair columns rows) (cells (columns - 1) rows))
      ∙ (λ i. length_up i + length_across i)

  up_is : (x y : ℕ) → x < columns → y < rows - 1 → edge_at (edge_pairs columns rows) (up_from columns rows x y) ≡ up_edge columns rows (x, y)
  up_is x y left below =
      let within = place_below columns (rows - 1) x y left below in
      ap edge_of (get_or_append_left (map (up_pair columns rows) (cells columns (rows - 1))) (map (across_pair columns rows) (cells (columns - 1) rows)) (0, 0) (x * (rows - 1) + y) (omega (arith, within, length_up))
      ∙ cell_at (up_pair columns rows) columns (rows - 1) x y (0, 0) left below)

  across_is : (x y : ℕ) → x < columns - 1 → y < rows → edge_at (edge_pairs columns rows) (across_from columns rows x y) ≡ across_edge columns rows (x, y)
  across_is x y left below =
      let ups = map (up_pair columns rows) (cells columns (rows - 1)) in
      let acrosses = map (across_pair columns rows) (cells (columns - 1) rows) in
      ap edge_of (ap (λ n. get_or (ups ++ acrosses) (n + (x * rows + y)) (0, 0)) (sym length_up)
      ∙ get_or-append-add ups acrosses (x * rows + y) (0, 0)
      ∙ cell_at (across_pair columns rows) (columns - 1) rows x y (0, 0) left below)

  joined_at : (x y : ℕ) → x < columns - 1 → y < rows - 1 → IsJoined (edge_pairs columns rows) (face_at columns rows (x, y))
  joined_at x y left below =
      let low : y < rows = omega (arith, below) in
      let a = across_is x y left low ∙ sym (between_up (vertex_at columns rows x y) (vertex_at columns rows (x + 1) y) (place_rises rows x y (x + 1) y (omega arith) low)) in
      let b = up_is (x + 1) y (omega (arith, left)) below ∙ sym (between_up (vertex_at columns rows (x + 1) y) (vertex_at columns rows (x + 1) (y + 1)) (omega arith)) in
      let c = across_is x (y + 1) left (omega (arith, below))
      ∙ sym (between_down (vertex_at columns rows x (y + 1)) (vertex_at columns rows (x + 1) (y + 1)) (place_rises rows x (y + 1) (x + 1) (y + 1) (omega arith) (omega (arith, below)))) in
      let d = up_is x y (omega (arith, left)) below ∙ sym (between_down (vertex_at columns rows x y) (vertex_at columns rows x (y + 1)) (omega arith)) in
      λ i. a i ∷ b i ∷ c i ∷ d i ∷ []

  differ_at : (x y : ℕ) → y < rows - 1 → AllPairs (λ a b. a ≢ b) (vertices_of (face_at columns rows (x, y)))
  differ_at x y below =
      four_differ (vertex_at columns rows x y) (vertex_at columns rows (x + 1) y) (vertex_at columns rows (x + 1) (y + 1)) (vertex_at columns rows x (y + 1))
      (λ e. omega (arith, e, below)) (λ e. omega (arith, e, below)) (λ e. omega (arith, e, below)) (λ e. omega (arith, e, below)) (λ e. omega (arith, e, below)) (λ e. omega (arith, e, below))

  edges_apart : All (λ a. All (λ b. a ≢ b) (map (across_pair columns rows) (cells (columns - 1) rows))) (map (up_pair columns rows) (cells columns (rows - 1)))
  edges_apart =
      All-map (λ a. All (λ b. a ≢ b) (map (across_pair columns rows) (cells (columns - 1) rows))) (up_pair columns rows) (cells columns (rows - 1))
      (all_cells (λ c. All (λ b. up_pair columns rows c ≢ b) (map (across_pair columns rows) (cells (columns - 1) rows))) 0 columns (rows - 1)
      (λ x y least left below. All-map (λ b. up_pair columns rows (x, y) ≢ b) (across_pair columns rows) (cells (columns - 1) rows)
      (all_cells (λ d. up_pair columns rows (x, y) ≢ across_pair columns rows d) 0 (columns - 1) rows (λ v z _ _ _ same. apart x y v z below same))))
    where
      apart : (x y v z : ℕ) → y < rows - 1 → up_pair columns rows (x, y) ≡ across_pair columns rows (v, z) → ⊥
      apart x y v z below same =
          let first : x * rows + y ≡ v * rows + z = ap (λ (p : Pair). p.0) same in
          let second : x * rows + (y + 1) ≡ (v + 1) * rows + z = ap (λ (p : Pair). p.1) same in
          omega (arith, first, second, below)

  up_differ : AllPairs (λ a b. a ≢ b) (map (up_pair columns rows) (cells columns (rows - 1)))
  up_differ = pairs_through (λ a b. a ≢ b) (up_pair columns rows) (cells columns (rows - 1))
      (pairs_cells (λ c d. up_pair columns rows c ≢ up_pair columns rows d) 0 columns (rows - 1)
      (λ x y z less below same. let first : x * rows + y ≡ x * rows + z = ap (λ (p : Pair). p.0) same in omega (arith, first, less))
      (λ x y v z less here there same.
      let first : x * rows + y ≡ v * rows + z = ap (λ (p : Pair). p.0) same in
      omega (arith, first, place_rises rows x y v z less (omega (arith, here)))))

  across_differ : AllPairs (λ a b. a ≢ b) (map (across_pair columns rows) (cells (columns - 1) rows))
  across_differ = pairs_through (λ a b. a ≢ b) (across_pair columns rows) (cells (columns - 1) rows)
      (pairs_cells (λ c d. across_pair columns rows c ≢ across_pair columns rows d) 0 (columns - 1) rows
      (λ x y z less below same. let first : x * rows + y ≡ x * rows + z = ap (λ (p : Pair). p.0) same in omega (arith, first, less))
      (λ x y v z less here there same.
      let first : x * rows + y ≡ v * rows + z = ap (λ (p : Pair). p.0) same in
      omega (arith, first, place_rises rows x y v z less here)))

  -- ---- all facts of the lists

  corner_bound : (x y : ℕ) → x < columns - 1 → y < rows - 1 → All (λ v. v < columns * rows) (face_vertices columns rows (x, y))
  corner_bound x y left below =
      All-from_recursion (λ v. v < columns * rows) (face_vertices columns rows (x, y)) (
        place_below columns rows x y (omega (arith, left)) (omega (arith, below)),
        (
          place_below columns rows (x + 1) y (omega (arith, left)) (omega (arith, below)),
          (
            place_below columns rows (x + 1) (y + 1) (omega (arith, left)) (omega (arith, below)),
            (place_below columns rows x (y + 1) (omega (arith, left)) (omega (arith, below)), tt),
          ),
        ),
      )

  up_bound : (x y : ℕ) → x < columns → y < rows - 1 → up_from columns rows x y < length (edge_pairs columns rows)
  up_bound x y left below =
      let within : x * (rows - 1) + y < columns * (rows - 1) = place_below columns (rows - 1) x y left below in
      subst (λ n. x * (rows - 1) + y < n) (sym length_edges) (more (x * (rows - 1) + y) (columns * (rows - 1)) ((columns - 1) * rows) within)
    where
      more : (k n m : ℕ) → k < n → k < n + m
      more k n m less = omega (arith, less)

  across_bound : (x y : ℕ) → x < columns - 1 → y < rows → across_from columns rows x y < length (edge_pairs columns rows)
  across_bound x y left below =
      let within : x * rows + y < (columns - 1) * rows = place_below (columns - 1) rows x y left below in
      subst (λ n. columns * (rows - 1) + (x * rows + y) < n) (sym length_edges) (more (x * rows + y) (columns * (rows - 1)) ((columns - 1) * rows) within)
    where
      more : (k n m : ℕ) → k < m → n + k < n + m
      more k n m less = omega (arith, less)

  side_bound : (x y : ℕ) → x < columns - 1 → y < rows - 1 → All (λ k. k < length (edge_pairs columns rows)) (face_edges columns rows (x, y))
  side_bound x y left below =
      All-from_recursion (λ k. k < length (edge_pairs columns rows)) (face_edges columns rows (x, y)) (
        across_bound x y left (omega (arith, below)),
        (up_bound (x + 1) y (omega (arith, left)) below, (across_bound x (y + 1) left (omega (arith, below)), (up_bound x y (omega (arith, left)) below, tt))),
      )

  length_vertices : length (flat_map (face_vertices columns rows) (face_cells columns rows)) ≡ 4 * length (face_cells columns rows)
  length_vertices = fours (face_vertices columns rows) (λ c. refl) (face_cells columns rows)

  length_sides : length (flat_map (face_edges columns rows) (face_cells columns rows)) ≡ 4 * length (face_cells columns rows)
  length_sides = fours (face_edges columns rows) (λ c. refl) (face_cells columns rows)

  corner_count : length (flat_map (face_vertices columns rows) (face_cells columns rows)) ≡ 4 * (0 + (columns - 1) * (rows - 1))
  corner_count =
      let none : length (face_cells columns rows) ≡ 0 + (columns - 1) * (rows - 1) = length_cells 0 (columns - 1) (rows - 1) ∙ omega arith in
      length_vertices ∙ ap (λ n. 4 * n) none

  pub valid_grid : IsValid (grid_lists columns rows)
  valid_grid = record {
    lesser_first = All-append (λ e. e.0 < e.1) (map (up_pair columns rows) (cells columns (rows - 1))) (map (across_pair columns rows) (cells (columns - 1) rows))
        (All-map (λ e. e.0 < e.1) (up_pair columns rows) (cells columns (rows - 1))
        (all_cells (λ c. (up_pair columns rows c).0 < (up_pair columns rows c).1) 0 columns (rows - 1) (λ x y _ _ _. omega arith)))
        (All-map (λ e. e.0 < e.1) (across_pair columns rows) (cells (columns - 1) rows)
        (all_cells (λ c. (across_pair columns rows c).0 < (across_pair columns rows c).1) 0 (columns - 1) rows (λ x y _ _ below. place_rises rows x y (x + 1) y (omega arith) below)));
    edges_within = All-append (λ e. e.1 < columns * rows) (map (up_pair columns rows) (cells columns (rows - 1))) (map (across_pair columns rows) (cells (columns - 1) rows))
        (All-map (λ e. e.1 < columns * rows) (up_pair columns rows) (cells columns (rows - 1))
        (all_cells (λ c. (up_pair columns rows c).1 < columns * rows) 0 columns (rows - 1) (λ x y _ left below. place_below columns rows x (y + 1) (omega (arith, left)) (omega (arith, below)))))
        (All-map (λ e. e.1 < columns * rows) (across_pair columns rows) (cells (columns - 1) rows)
        (all_cells (λ c. (across_pair columns rows c).1 < columns * rows) 0 (columns - 1) rows (λ x y _ left below. place_below columns rows (x + 1) y (omega (arith, left)) below)));
    edges_differ = pairs_append (λ a b. a ≢ b) (map (up_pair columns rows) (cells columns (rows - 1))) (map (across_pair columns rows) (cells (columns - 1) rows)) up_differ across_differ edges_apart;
    paired = length_vertices ∙ sym length_sides;
    corner_points_within = all_flat (λ v. v < columns * rows) (face_vertices columns rows) (face_cells columns rows)
        (all_cells (λ c. All (λ v. v < columns * rows) (face_vertices columns rows c)) 0 (columns - 1) (rows - 1) (λ x y _ left below. corner_bound x y (omega (arith, left)) below));
    corner_edges_within = all_flat (λ k. k < length (edge_pairs columns rows)) (face_edges columns rows) (face_cells columns rows)
        (all_cells (λ c. All (λ k. k < length (edge_pairs columns rows)) (face_edges columns rows c)) 0 (columns - 1) (rows - 1) (λ x y _ left below. side_bound x y (omega (arith, left)) below));
    offsets = (refl, rise _ 0 ((columns - 1) * (rows - 1)) corner_count);
    vertices_differ = subst (All (λ f. AllPairs (λ a b. a ≢ b) (vertices_of f))) (sym faces_are)
        (All-map (λ f. AllPairs (λ a b. a ≢ b) (vertices_of f)) (face_at columns rows) (face_cells columns rows)
        (all_cells (λ c. AllPairs (λ a b. a ≢ b) (vertices_of (face_at columns rows c))) 0 (columns - 1) (rows - 1) (λ x y _ _ below. differ_at x y below)));
    joined = subst (All (IsJoined (edge_pairs columns rows))) (sym faces_are)
        (All-map (IsJoined (edge_pairs columns rows)) (face_at columns rows) (face_cells columns rows)
        (all_cells (λ c. IsJoined (edge_pairs columns rows) (face_at columns rows c)) 0 (columns - 1) (rows - 1) (λ x y _ left below. joined_at x y (omega (arith, left)) below)));
  }

  -- ---- the shape

  as_edges : (f : Pair → Edge) (cs : List Pair) → map edge_of (map (λ c. ends (f c)) cs) ≡ map f cs
  as_edges f [] = refl
  as_edges f (c ∷ cs) = ap (λ es. f c ∷ es) (as_edges f cs)

  pub shape_is : (size_x size_y : ℤ) → shape_of (map (point_at columns rows size_x size_y) (cells columns rows)) (grid_lists columns rows) ≡ grid columns rows size_x size_y
  shape_is size_x size_y =
      let edges = map-append edge_of (map (up_pair columns rows) (cells columns (rows - 1))) (map (across_pair columns rows) (cells (columns - 1) rows))
      ∙ (λ i. as_edges (up_edge columns rows) (cells columns (rows - 1)) i ++ as_edges (across_edge columns rows) (cells (columns - 1) rows) i) in
      λ i. record { points = map (point_at columns rows size_x size_y) (cells columns rows); edges = edges i; faces = faces_are i }

  -- ---- numbers of 32 bits

  pub numbered_grid : columns * rows ≤ 2 ^ 23 → columns * (rows - 1) + (columns - 1) * rows ≤ 2 ^ 23 → 4 * ((columns - 1) * (rows - 1)) ≤ 2 ^ 23 → IsNumbered (grid_lists columns rows)
  numbered_grid vertices edges corners =
      let cells_count : length (face_cells columns rows) ≡ (columns - 1) * (rows - 1) = length_cells 0 (columns - 1) (rows - 1) in
      let many : 4 * length (face_cells columns rows) ≤ 2 ^ 23 = subst (λ n. 4 * n ≤ 2 ^ 23) (sym cells_count) corners in
      let pieces : length (offsets columns rows) ≡ suc ((columns - 1) * (rows - 1)) = length-map-range_with_len (λ k. 4 * k) 0 (suc ((columns - 1) * (rows - 1))) in
      record {
        points = above _ vertices;
        edges = subst (λ n. n < 2 ^ 32) (sym length_edges) (above _ edges);
        corner_points = subst (λ n. n < 2 ^ 32) (sym length_vertices) (above _ many);
        corner_edges = subst (λ n. n < 2 ^ 32) (sym length_sides) (above _ many);
        faces = subst (λ n. n < 2 ^ 32) (sym pieces) (one_above _ corners);
      }
    where
      above : (n : ℕ) → n ≤ 2 ^ 23 → n < 2 ^ 32
      above n few = omega (arith, few)

      one_above : (n : ℕ) → 4 * n ≤ 2 ^ 23 → suc n < 2 ^ 32
      one_above n few = omega (arith, few)
