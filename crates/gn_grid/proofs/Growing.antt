-- The lists of a grid, as they grow by a column.
use Rattle.std.proofs.Common.{◌≡◌, ℕ, zero, suc, ◌+◌, ◌-◌, ◌*◌, ◌<◌, ◌≤◌, ◌^◌, ℤ, List, [], ◌∷◌, ◌++◌, map, refl, sym, ap, ◌∙◌, arith}
use Rattle.std.specs.List.{range_with_len, flat_map}
use Rattle.std.proofs.Math.Nat.{mul-le-mul_right}
use Rattle.std.proofs.lemmas.Grind.{flat_map-append}
use Rattle.std.proofs.lemmas.List.{append-nil, append_assoc, map-append}
use Rattle.std.proofs.lemmas.List.FromFn.{map-range_with_len_more}
use Rattle.gn_shapes.specs.Grids.{along_side, point_at, cells}
use Rattle.gn_grid.specs.GridLists.{up_pair, across_pair, face_vertices, face_edges, point_in, up_from_first, across_from_first, four_vertices, four_edges}
use Rattle.gn_grid.proofs.Cells.{column, cells_from}

-- ---- one more

flat_next : {X : Type 0} (g : ℕ → List X) (a n j : ℕ) → a + n ≡ j → flat_map g (range_with_len a (suc n)) ≡ flat_map g (range_with_len a n) ++ g j
flat_next g a zero j e = append-nil (g a) ∙ ap g (omega (arith, e))
flat_next g a (suc n) j e = ap (λ l. g a ++ l) (flat_next g (a + 1) n j (omega (arith, e))) ∙ sym (append_assoc (g a) (flat_map g (range_with_len (a + 1) n)) (g j))

pub flat_more : {X : Type 0} (g : ℕ → List X) (n : ℕ) → flat_map g (range_with_len 0 (n + 1)) ≡ flat_map g (range_with_len 0 n) ++ g n
flat_more g n = let next : n + 1 ≡ suc n = omega arith in ap (λ k. flat_map g (range_with_len 0 k)) next ∙ flat_next g 0 n n (omega arith)

pub push_step : {X : Type 0} (g : ℕ → X) (n : ℕ) (start now after : List X)
    → now ≡ start ++ map g (range_with_len 0 n) → after ≡ now ++ g n ∷ [] → after ≡ start ++ map g (range_with_len 0 (n + 1))
push_step g n start now after before added =
    added ∙ ap (λ l. l ++ g n ∷ []) before ∙ append_assoc start (map g (range_with_len 0 n)) (g n ∷ []) ∙ ap (λ l. start ++ l) (sym (map-range_with_len_more g 0 n n (omega arith)))

pub extend_step : {X : Type 0} (g : ℕ → List X) (n : ℕ) (start now after : List X)
    → now ≡ start ++ flat_map g (range_with_len 0 n) → after ≡ now ++ g n → after ≡ start ++ flat_map g (range_with_len 0 (n + 1))
extend_step g n start now after before added =
    added ∙ ap (λ l. l ++ g n) before ∙ append_assoc start (flat_map g (range_with_len 0 n)) (g n) ∙ ap (λ l. start ++ l) (sym (flat_more g n))

cells_more : (n rows : ℕ) → cells (n + 1) rows ≡ cells n rows ++ column n rows
cells_more n rows = flat_more (λ x. map (λ y. (x, y)) (range_with_len 0 rows)) n

-- ---- one more column of cells

map_column : {X : Type 0} (g : ℕ → X) (f : ℕ × ℕ → X) (x first n : ℕ) → ((y : ℕ) → g y ≡ f (x, y))
    → map g (range_with_len first n) ≡ map f (map (λ y. (x, y)) (range_with_len first n))
map_column g f x first zero same = refl
map_column g f x first (suc n) same = λ i. same first i ∷ map_column g f x (first + 1) n same i

flat_column : {X : Type 0} (g : ℕ → List X) (f : ℕ × ℕ → List X) (x first n : ℕ) → ((y : ℕ) → g y ≡ f (x, y))
    → flat_map g (range_with_len first n) ≡ flat_map f (map (λ y. (x, y)) (range_with_len first n))
flat_column g f x first zero same = refl
flat_column g f x first (suc n) same = λ i. same first i ++ flat_column g f x (first + 1) n same i

pub map_step : {X : Type 0} (g : ℕ → X) (f : ℕ × ℕ → X) (x rows steps : ℕ) (start now after : List X) → steps ≡ rows → ((y : ℕ) → g y ≡ f (x, y))
    → now ≡ start ++ map f (cells x rows) → after ≡ now ++ map g (range_with_len 0 steps) → after ≡ start ++ map f (cells (x + 1) rows)
map_step g f x rows steps start now after count same before added =
    let grown = ap (λ l. map f (cells x rows) ++ l) (map_column g f x 0 rows same) ∙ sym (map-append f (cells x rows) (column x rows)) ∙ ap (map f) (sym (cells_more x rows)) in
    added ∙ (λ i. before i ++ map g (range_with_len 0 (count i))) ∙ append_assoc start (map f (cells x rows)) (map g (range_with_len 0 rows)) ∙ ap (λ l. start ++ l) grown

pub flat_step : {X : Type 0} (g : ℕ → List X) (f : ℕ × ℕ → List X) (x rows steps : ℕ) (now after : List X) → steps ≡ rows → ((y : ℕ) → g y ≡ f (x, y))
    → now ≡ flat_map f (cells x rows) → after ≡ now ++ flat_map g (range_with_len 0 steps) → after ≡ flat_map f (cells (x + 1) rows)
flat_step g f x rows steps now after count same before added =
    let grown = ap (λ l. flat_map f (cells x rows) ++ l) (flat_column g f x 0 rows same) ∙ sym (flat_map-append f (cells x rows) (column x rows)) ∙ ap (flat_map f) (sym (cells_more x rows)) in
    added ∙ (λ i. before i ++ flat_map g (range_with_len 0 (count i))) ∙ grown

-- ---- what one column adds

module _ (columns rows x : ℕ) where
  pub up_same : (y : ℕ) → up_from_first (x * rows) y ≡ up_pair columns rows (x, y)
  up_same y = let next : x * rows + y + 1 ≡ x * rows + (y + 1) = omega arith in λ i. (x * rows + y, next i)

  pub across_same : (y : ℕ) → across_from_first (x * rows) ((x + 1) * rows) y ≡ across_pair columns rows (x, y)
  across_same y = refl

  pub vertices_same : (y : ℕ) → four_vertices (x * rows) ((x + 1) * rows) y ≡ face_vertices columns rows (x, y)
  vertices_same y =
      let here : x * rows + y + 1 ≡ x * rows + (y + 1) = omega arith in
      let there : (x + 1) * rows + y + 1 ≡ (x + 1) * rows + (y + 1) = omega arith in
      λ i. (x * rows + y) ∷ ((x + 1) * rows + y) ∷ there i ∷ here i ∷ []

  shift : (a b c : ℕ) → a + b + c ≡ a + (b + c)
  shift a b c = omega arith

  shift_more : (a b c : ℕ) → a + b + c + 1 ≡ a + (b + (c + 1))
  shift_more a b c = omega arith

  pub edges_same : (steps : ℕ) → steps ≡ rows - 1 → (y : ℕ) → four_edges (columns * steps + x * rows) ((x + 1) * steps) (x * steps) y ≡ face_edges columns rows (x, y)
  edges_same steps count y =
      let below = ap (λ n. columns * n + x * rows + y) count ∙ shift (columns * (rows - 1)) (x * rows) y in
      let above = ap (λ n. columns * n + x * rows + y + 1) count ∙ shift_more (columns * (rows - 1)) (x * rows) y in
      λ i. below i ∷ ((x + 1) * count i + y) ∷ above i ∷ (x * count i + y) ∷ []

  -- ---- numbers that fit

  pub column_fits : x < columns → columns * rows ≤ 2 ^ 23 → x * rows + rows ≤ 2 ^ 23
  column_fits left few = let most : suc x * rows ≤ columns * rows = mul-le-mul_right rows left in omega (arith, most, few)

  pub next_fits : x < columns - 1 → columns * rows ≤ 2 ^ 23 → (x + 1) * rows + rows ≤ 2 ^ 23
  next_fits left few =
      let beside : suc x < columns = omega (arith, left) in
      let most : suc (suc x) * rows ≤ columns * rows = mul-le-mul_right rows beside in
      omega (arith, most, few)

-- ---- the vertices

module _ (columns rows : ℕ) (size_x size_y : ℤ) where
  points_up : (x first n : ℕ) → map (point_in (along_side size_x columns x)) (map (along_side size_y rows) (range_with_len first n))
      ≡ map (point_at columns rows size_x size_y) (map (λ y. (x, y)) (range_with_len first n))
  points_up x first zero = refl
  points_up x first (suc n) = ap (λ l. point_at columns rows size_x size_y (x, first) ∷ l) (points_up x (first + 1) n)

  pub points_from : (first n : ℕ) → flat_map (λ x. map (point_in x) (map (along_side size_y rows) (range_with_len 0 rows))) (map (along_side size_x columns) (range_with_len first n))
      ≡ map (point_at columns rows size_x size_y) (cells_from first n rows)
  points_from first zero = refl
  points_from first (suc n) =
      (λ i. points_up first 0 rows i ++ points_from (first + 1) n i) ∙ sym (map-append (point_at columns rows size_x size_y) (column first rows) (cells_from (first + 1) n rows))
