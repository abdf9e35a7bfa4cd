-- What each row of the table passes, the row of a kind passes, and it is the row of that kind.
use Rattle.std.proofs.Common.{◌≡◌, Bool, true, false, ◌&&◌, List, [], ◌∷◌, Option, Some, None, bytes_eq, cond, refl, subst}
use Rattle.std.specs.Option.{option_or}
use Rattle.std.specs.List.{list_all}
use Rattle.std.proofs.lemmas.Slice.Eq.{bytes_eq-Decides}
use Rattle.gn_kinds.specs.Row.{Text, KindRow}
use Rattle.gn_kinds.specs.Table.{table, row_in, row_in_sections, row_of_kind}

parts_true : (a b : Bool) → (a && b) ≡ true → (a ≡ true) × (b ≡ true)
parts_true true b e = (refl, e)
parts_true false b e = absurd (cc)

module _ (test : KindRow → Bool) where
  -- the row of this kind, which passes
  abbrev pub Passes : Text → KindRow → Type 0
  Passes kind row = (row.kind ≡ kind) × (test row ≡ true)

  found_if : (b : Bool) (kind : Text) (x row : KindRow) (rest : Option KindRow) → bytes_eq x.kind kind ≡ b → test x ≡ true → (rest ≡ Some row → Passes kind row) → cond b (Some x) rest ≡ Some row → Passes kind row
  found_if true kind x row rest same passed more e = subst (Passes kind) (some_same x row e) ((bytes_eq-Decides x.kind kind).0 same, passed)
    where
      some_same : (x y : KindRow) → ◌≡◌ {A = Option KindRow} (Some x) (Some y) → x ≡ y
      some_same x y e = cc
  found_if false kind x row rest same passed more e = more e

  found_in : (rows : List KindRow) (kind : Text) (row : KindRow) → list_all test rows ≡ true → row_in rows kind ≡ Some row → Passes kind row
  found_in [] kind row h e = absurd (cc)
  found_in (x ∷ rows) kind row h e =
      let parts = parts_true (test x) (list_all test rows) h in
      found_if (bytes_eq x.kind kind) kind x row (row_in rows kind) refl parts.0 (found_in rows kind row parts.1) e

  found_or : (kind : Text) (a b : Option KindRow) (row : KindRow) → (a ≡ Some row → Passes kind row) → (b ≡ Some row → Passes kind row) → option_or a b ≡ Some row → Passes kind row
  found_or kind None b row f g e = g e
  found_or kind (Some x) b row f g e = f e

  found_in_sections : (sections : List (List KindRow)) (kind : Text) (row : KindRow) → list_all (list_all test) sections ≡ true → row_in_sections sections kind ≡ Some row → Passes kind row
  found_in_sections [] kind row h e = absurd (cc)
  found_in_sections (rows ∷ more) kind row h e =
      let parts = parts_true (list_all test rows) (list_all (list_all test) more) h in
      found_or kind (row_in rows kind) (row_in_sections more kind) row (found_in rows kind row parts.0) (found_in_sections more kind row parts.1) e

  pub row_passes : list_all (list_all test) table ≡ true → (kind : Text) (row : KindRow) → row_of_kind kind ≡ Some row → Passes kind row
  unfolding row_of_kind
  row_passes h kind row e = found_in_sections table kind row h e
