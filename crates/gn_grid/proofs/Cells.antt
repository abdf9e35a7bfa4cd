-- The pairs of a number below one count and a number below another.
use Rattle.std.proofs.Common.{◌≡◌, ℕ, zero, suc, ◌+◌, ◌*◌, ◌<◌, ◌≤◌, List, [], ◌∷◌, ◌++◌, length, map, get_or, sym, ap, subst, ◌∙◌, arith}
use Rattle.std.specs.List.{All, AllPairs, range_with_len, flat_map}
use Rattle.std.proofs.Math.Nat.{mul-le-mul_right}
use Rattle.std.proofs.lemmas.Nat.{mul-add-lt}
use Rattle.std.proofs.lemmas.List.{length-append, get_or-append-add, get_or_append_left, get_or-map}
use Rattle.std.proofs.lemmas.List.Elements.{All-append, All-head, All-map, All-nil, All-tail}
use Rattle.std.proofs.lemmas.List.FromFn.{length-map-range_with_len, get_or-map-range_with_len}
use Rattle.std.proofs.lemmas.List.Kept.{AllPairs-cons}

-- ---- pairs of members

module _ {X : Type 0} (R : X → X → Type 0) where
  pub pairs_append : (xs ys : List X) → AllPairs R xs → AllPairs R ys → All (λ x. All (R x) ys) xs → AllPairs R (xs ++ ys)
  pairs_append [] ys first second across = second
  pairs_append (x ∷ xs) ys first second across =
      let head : All (R x) xs = λ j d lt. first 0 (suc j) d (omega arith) (omega (arith, lt)) in
      let tail : AllPairs R xs = λ i j d lt within. first (suc i) (suc j) d (omega (arith, lt)) (omega (arith, within)) in
      let beyond : All (R x) ys = All-head (λ y. All (R y) ys) x xs across in
      AllPairs-cons R x (xs ++ ys) (All-append (R x) xs ys head beyond) (pairs_append xs ys tail second (All-tail (λ y. All (R y) ys) x xs across))

module _ {X Y : Type 0} (R : Y → Y → Type 0) (f : X → Y) where
  pub pairs_through : (xs : List X) → AllPairs (λ a b. R (f a) (f b)) xs → AllPairs R (map f xs)
  pairs_through [] pairs = λ i j d lt within. absurd (omega (arith, within))
  pairs_through (x ∷ xs) pairs =
      let head : All (λ y. R (f x) (f y)) xs = λ j d lt. pairs 0 (suc j) d (omega arith) (omega (arith, lt)) in
      let tail : AllPairs (λ a b. R (f a) (f b)) xs = λ i j d lt within. pairs (suc i) (suc j) d (omega (arith, lt)) (omega (arith, within)) in
      AllPairs-cons R (f x) (map f xs) (All-map (R (f x)) f xs head) (pairs_through xs tail)

pub all_flat : {X Y : Type 0} (P : Y → Type 0) (f : X → List Y) (xs : List X) → All (λ x. All P (f x)) xs → All P (flat_map f xs)
all_flat P f [] each = All-nil P
all_flat P f (x ∷ xs) each = All-append P (f x) (flat_map f xs) (All-head (λ y. All P (f y)) x xs each) (all_flat P f xs (All-tail (λ y. All P (f y)) x xs each))

-- ---- cells

abbrev pub column : ℕ → ℕ → List (ℕ × ℕ)
column x rows = map (λ y. (x, y)) (range_with_len 0 rows)

-- the cells whose columns begin at a number
abbrev pub cells_from : ℕ → ℕ → ℕ → List (ℕ × ℕ)
cells_from first columns rows = flat_map (λ x. map (λ y. (x, y)) (range_with_len 0 rows)) (range_with_len first columns)

length_column : (x rows : ℕ) → length (column x rows) ≡ rows
length_column x rows = length-map-range_with_len (λ (y : ℕ). (x, y)) 0 rows

pub length_cells : (first columns rows : ℕ) → length (cells_from first columns rows) ≡ columns * rows
length_cells first zero rows = omega arith
length_cells first (suc n) rows =
    let step : rows + n * rows ≡ suc n * rows = omega arith in
    length-append (column first rows) (cells_from (first + 1) n rows)
    ∙ (λ i. length_column first rows i + length_cells (first + 1) n rows i) ∙ step

column_at : (x rows y : ℕ) (d : ℕ × ℕ) → y < rows → get_or (column x rows) y d ≡ (x, y)
column_at x rows y d below = get_or-map-range_with_len (λ (y : ℕ). (x, y)) 0 rows y y d below (omega arith)

module _ (P : ℕ × ℕ → Type 0) where
  all_column : (x rows : ℕ) → ((y : ℕ) → y < rows → P (x, y)) → All P (column x rows)
  all_column x rows each = λ k d within.
      let below : k < rows = omega (arith, within, length_column x rows) in
      subst P (sym (column_at x rows k d below)) (each k below)

  pub all_cells : (first columns rows : ℕ) → ((x y : ℕ) → first ≤ x → x < first + columns → y < rows → P (x, y)) → All P (cells_from first columns rows)
  all_cells first zero rows each = All-nil P
  all_cells first (suc n) rows each =
      All-append P (column first rows) (cells_from (first + 1) n rows)
      (all_column first rows (λ y below. each first y (omega arith) (omega arith) below))
      (all_cells (first + 1) n rows (λ x y least most below. each x y (omega (arith, least)) (omega (arith, most)) below))

module _ (R : ℕ × ℕ → ℕ × ℕ → Type 0) where
  pairs_column : (x rows : ℕ) → ((y z : ℕ) → y < z → z < rows → R (x, y) (x, z)) → AllPairs R (column x rows)
  pairs_column x rows up = λ i j d less within.
      let below : j < rows = omega (arith, within, length_column x rows) in
      subst (λ a. R a (get_or (column x rows) j d)) (sym (column_at x rows i d (omega (arith, less, below))))
      (subst (λ b. R (x, i) b) (sym (column_at x rows j d below)) (up i j less below))

  -- in one column from a lesser row to a greater, and from a lesser column to a greater
  pub pairs_cells : (first columns rows : ℕ) → ((x y z : ℕ) → y < z → z < rows → R (x, y) (x, z)) → ((x y v z : ℕ) → x < v → y < rows → z < rows → R (x, y) (v, z))
      → AllPairs R (cells_from first columns rows)
  pairs_cells first zero rows up over = λ i j d less within. absurd (omega (arith, within))
  pairs_cells first (suc n) rows up over =
      pairs_append R (column first rows) (cells_from (first + 1) n rows) (pairs_column first rows (up first)) (pairs_cells (first + 1) n rows up over)
      (all_column (λ a. All (R a) (cells_from (first + 1) n rows)) first rows
      (λ y below. all_cells (R (first, y)) (first + 1) n rows (λ v z least most low. over first y v z (omega (arith, least)) below low)))

cell_from : (first columns rows x y : ℕ) (d : ℕ × ℕ) → x < columns → y < rows → get_or (cells_from first columns rows) (x * rows + y) d ≡ (first + x, y)
cell_from first zero rows x y d left below = absurd (omega (arith, left))
cell_from first (suc n) rows zero y d left below =
    let place : 0 * rows + y ≡ y = omega arith in
    let same : first ≡ first + 0 = omega arith in
    ap (λ k. get_or (cells_from first (suc n) rows) k d) place
    ∙ get_or_append_left (column first rows) (cells_from (first + 1) n rows) d y (omega (arith, below, length_column first rows))
    ∙ column_at first rows y d below ∙ ap (λ x. (x, y)) same
cell_from first (suc n) rows (suc x) y d left below =
    let place : suc x * rows + y ≡ length (column first rows) + (x * rows + y) = omega (arith, length_column first rows) in
    let same : first + 1 + x ≡ first + suc x = omega arith in
    ap (λ k. get_or (cells_from first (suc n) rows) k d) place
    ∙ get_or-append-add (column first rows) (cells_from (first + 1) n rows) (x * rows + y) d
    ∙ cell_from (first + 1) n rows x y d (omega (arith, left)) below ∙ ap (λ v. (v, y)) same

-- ---- numbers of vertices

pub place_below : (columns rows x y : ℕ) → x < columns → y < rows → x * rows + y < columns * rows
place_below columns rows x y left below = omega (arith, mul-add-lt x rows y columns left below)

pub place_rises : (rows x y v z : ℕ) → x < v → y < rows → x * rows + y < v * rows + z
place_rises rows x y v z less below = let most : suc x * rows ≤ v * rows = mul-le-mul_right rows less in omega (arith, most, below)

-- what a function makes of the cell at a place
pub cell_at : {X : Type 0} (f : ℕ × ℕ → X) (columns rows x y : ℕ) (d : X) → x < columns → y < rows → get_or (map f (cells_from 0 columns rows)) (x * rows + y) d ≡ f (x, y)
cell_at f columns rows x y d left below =
    let within : x * rows + y < length (cells_from 0 columns rows) = omega (arith, place_below columns rows x y left below, length_cells 0 columns rows) in
    let same : 0 + x ≡ x = omega arith in
    get_or-map f (cells_from 0 columns rows) (x * rows + y) (0, 0) d within
    ∙ ap f (cell_from 0 columns rows x y (0, 0) left below ∙ ap (λ v. (v, y)) same)
