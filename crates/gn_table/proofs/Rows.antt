-- Rows of tables and tables of groups, one by one and by number.
use Rattle.std.proofs.Common.{◌≡◌, ◌<◌, ◌+◌, ℕ, zero, suc, List, [], ◌∷◌, ◌++◌, length, map, take, get_or, Some, refl, sym, ap, ◌∙◌, subst, arith}
use Rattle.std.specs.Prelude.{slice_get}
use Rattle.std.proofs.lemmas.List.{length-map, length-take-le, take_more}
use Rattle.std.proofs.Math.ListN.{get_or-map}
use Rattle.std.proofs.Math.Seq.{take-length}
use Rattle.gn_tree.specs.Trees.{Node, Group}
use Rattle.gn_tree.specs.Seen.{group_of, nodes_of}
use Rattle.gn_tree.specs.declared.tree.Group.{Group as CodeGroup}
use Rattle.gn_rules.specs.Sockets.{node_at}
use Rattle.gn_rules.specs.Scopes.{Scope}
use Rattle.gn_scopes.proofs.Grouping.{node_at_seen}
use Rattle.gn_meaning.specs.Bodies.{group_body}
use Rattle.gn_meaning.specs.Forms.{NodeHasForm, NodesHaveForm}
use Rattle.gn_meaning.proofs.Options.{some_same}
use Rattle.gn_table.specs.declared.table.Row.{Row}
use Rattle.gn_table.specs.declared.table.Table.{Table}
use Rattle.gn_table.specs.Tables.{IsRow, AreRows, HoldRows, IsTable, HoldTables}

-- ---- rows

module _ (s : Scope) where
  one_row_more : (xs : List Node) (rows : List Row) (x : Node) (row : Row) → AreRows s xs rows → IsRow s x row → AreRows s (xs ++ x ∷ []) (rows ++ row ∷ [])
  one_row_more [] [] x row rs r = (r, tt)
  one_row_more (y ∷ xs) (q ∷ rows) x row (h, hs) r = (h, one_row_more xs rows x row hs r)
  one_row_more [] (q ∷ rows) x row rs r = absurd rs
  one_row_more (y ∷ xs) [] x row rs r = absurd rs

  pub next_row : (xs : List Node) (i : ℕ) (rows : List Row) (x : Node) (row : Row) → i < length xs → x ≡ get_or xs i x → AreRows s (take i xs) rows → IsRow s x row → AreRows s (take (i + 1) xs) (rows ++ row ∷ [])
  next_row xs i rows x row h e rs r =
      subst (λ ys. AreRows s ys (rows ++ row ∷ [])) (sym (take_more xs i x h ∙ ap (λ y. take i xs ++ y ∷ []) (sym e))) (one_row_more (take i xs) rows x row rs r)

  row_at : (xs : List Node) (rows : List Row) (n : ℕ) (x : Node) → AreRows s xs rows → slice_get xs n ≡ Some x → (row : Row) × (slice_get rows n ≡ Some row) × IsRow s x row
  row_at [] [] n x rs e = cc
  row_at [] (q ∷ rows) n x rs e = absurd rs
  row_at (y ∷ xs) [] n x rs e = absurd rs
  row_at (y ∷ xs) (q ∷ rows) zero x (h, hs) e = (q, refl, subst (λ z. IsRow s z q) (some_same e) h)
  row_at (y ∷ xs) (q ∷ rows) (suc n) x (h, hs) e = row_at xs rows n x hs e

pub all_rows : (s : Scope) (xs : List Node) (rows : List Row) → s.nodes ≡ nodes_of xs → AreRows s xs rows → HoldRows s rows
all_rows s xs rows seen rs n x e = row_at s xs rows n x rs (sym (ap (λ ns. node_at ns n) seen ∙ node_at_seen xs n) ∙ e)

pub form_at : (xs : List Node) (n : ℕ) (x : Node) → NodesHaveForm (nodes_of xs) → slice_get xs n ≡ Some x → NodeHasForm x
form_at [] n x form e = cc
form_at (y ∷ xs) zero x form e = subst NodeHasForm (some_same e) form.0
form_at (y ∷ xs) (suc n) x form e = form_at xs n x form.1 e

-- ---- tables

module _ (gs : List Group) where
  -- one by one, of groups from a number on
  pub AreTablesFrom : ℕ → List Group → List Table → Type 0
  AreTablesFrom i [] [] = Unit {0}
  AreTablesFrom i (x ∷ xs) (table ∷ tables) = IsTable (group_body gs i x) table × AreTablesFrom (suc i) xs tables
  AreTablesFrom i _ _ = ⊥

  one_table_more : (i : ℕ) (xs : List Group) (tables : List Table) (x : Group) (table : Table) (n : ℕ) → n ≡ i + length xs → AreTablesFrom i xs tables → IsTable (group_body gs n x) table → AreTablesFrom i (xs ++ x ∷ []) (tables ++ table ∷ [])
  unfolding AreTablesFrom
  one_table_more i [] [] x table n e hs h = (subst (λ m. IsTable (group_body gs m x) table) (let same : n ≡ i = omega (arith, e) in same) h, tt)
  one_table_more i (y ∷ xs) (q ∷ tables) x table n e (k, hs) h = (k, one_table_more (suc i) xs tables x table n (omega (arith, e)) hs h)
  one_table_more i [] (q ∷ tables) x table n e hs h = absurd hs
  one_table_more i (y ∷ xs) [] x table n e hs h = absurd hs

  table_at : (i : ℕ) (xs : List Group) (tables : List Table) (n : ℕ) (x : Group) → AreTablesFrom i xs tables → slice_get xs n ≡ Some x → (table : Table) × (slice_get tables n ≡ Some table) × IsTable (group_body gs (i + n) x) table
  unfolding AreTablesFrom
  table_at i [] [] n x hs e = cc
  table_at i [] (q ∷ tables) n x hs e = absurd hs
  table_at i (y ∷ xs) [] n x hs e = absurd hs
  table_at i (y ∷ xs) (q ∷ tables) zero x (h, hs) e = (q, refl, subst (λ m. IsTable (group_body gs m x) q) (let same : i ≡ i + 0 = omega arith in same) (subst (λ z. IsTable (group_body gs i z) q) (some_same e) h))
  table_at i (y ∷ xs) (q ∷ tables) (suc n) x (h, hs) e =
      let found = table_at (suc i) xs tables n x hs e in
      (found.0, found.1, subst (λ m. IsTable (group_body gs m x) found.0) (let same : suc i + n ≡ i + suc n = omega arith in same) found.2)

-- the tables of the first groups
pub AreFirstTables : List CodeGroup → ℕ → List Table → Type 0
AreFirstTables xs i tables = AreTablesFrom (map group_of xs) 0 (take i (map group_of xs)) tables

pub no_tables : (xs : List CodeGroup) → AreFirstTables xs 0 []
unfolding AreFirstTables AreTablesFrom
no_tables xs = tt

pub next_table : (xs : List CodeGroup) (i : ℕ) (tables : List Table) (x : CodeGroup) (table : Table) → i < length xs → x ≡ get_or xs i x → AreFirstTables xs i tables → IsTable (group_body (map group_of xs) i (group_of x)) table → AreFirstTables xs (i + 1) (tables ++ table ∷ [])
unfolding AreFirstTables
next_table xs i tables x table h e hs k =
    let gs = map group_of xs in
    let inside : i < length gs = subst (λ n. i < n) (sym (length-map xs group_of)) h in
    let here : get_or gs i (group_of x) ≡ group_of x = get_or-map group_of xs i x ∙ ap group_of (sym e) in
    let count : length (take i gs) ≡ i = length-take-le i gs (omega (arith, inside)) in
    subst (λ ys. AreTablesFrom gs 0 ys (tables ++ table ∷ [])) (sym (take_more gs i (group_of x) inside ∙ ap (λ y. take i gs ++ y ∷ []) here))
    (one_table_more gs 0 (take i gs) tables (group_of x) table i (omega (arith, count)) hs k)

pub all_tables : (xs : List CodeGroup) (i : ℕ) (tables : List Table) → i ≡ length xs → AreFirstTables xs i tables → HoldTables (map group_of xs) tables
unfolding AreFirstTables
all_tables xs i tables e hs n g at =
    let gs = map group_of xs in
    let whole : take i gs ≡ gs = ap (λ m. take m gs) (e ∙ sym (length-map xs group_of)) ∙ take-length gs in
    let found = table_at gs 0 gs tables n g (subst (λ ys. AreTablesFrom gs 0 ys tables) whole hs) at in
    (found.0, found.1, subst (λ m. IsTable (group_body gs m g) found.0) (let same : 0 + n ≡ n = omega arith in same) found.2)
