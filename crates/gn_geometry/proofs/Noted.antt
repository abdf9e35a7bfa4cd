-- Copies that are noted of columns behind those of other arrays.
use Rattle.std.proofs.Common.{◌≡◌, ℕ, suc, ◌+◌, zero, Bool, List, [], ◌∷◌, ◌++◌, length, take, refl, sym, ap, ◌∙◌}
use Rattle.std.proofs.Math.Seq.{take-append-add}
use Rattle.gn_shared.specs.Count.{Count}
use Rattle.gn_plain.specs.Columns.{Entry}
use Rattle.gn_attr.specs.Handles.{noted_if}
use Rattle.gn_attr.specs.Columns.{noted, NotesSome, one_part}
use Rattle.gn_attr.specs.declared.column.Column.{Column}
use Rattle.gn_geometry.specs.Notes.{noted_each, NotesFirst}
use Rattle.gn_geometry.specs.Meshes.{column_copies}

pub noted_columns : (es : List (Entry Column)) (count : Count) → noted es count ≡ noted_each (column_copies es) count
noted_columns [] count = refl
noted_columns (e ∷ es) count = noted_columns es (noted_if (one_part e.column) count)

take_copies : (n : ℕ) (es : List (Entry Column)) → column_copies (take n es) ≡ take n (column_copies es)
take_copies zero es = refl
take_copies (suc n) [] = refl
take_copies (suc n) (e ∷ es) = ap (λ ys. one_part e.column ∷ ys) (take_copies n es)

pub noted_append : (xs ys : List Bool) (count : Count) → noted_each (xs ++ ys) count ≡ noted_each ys (noted_each xs count)
noted_append [] ys count = refl
noted_append (a ∷ xs) ys count = noted_append xs ys (noted_if a count)

take_within : (xs ys : List Bool) (n : ℕ) → (m : ℕ) × (take m (xs ++ ys) ≡ take n xs)
take_within xs ys zero = (0, refl)
take_within [] ys (suc n) = (0, refl)
take_within (a ∷ xs) ys (suc n) = let rest = take_within xs ys n in (suc rest.0, ap (λ l. a ∷ l) rest.1)

-- some of the first arrays
pub first_of : (xs ys : List Bool) (count count' : Count) → NotesFirst xs count count' → NotesFirst (xs ++ ys) count count'
first_of xs ys count count' some = let n = take_within xs ys some.0 in (n.0, some.1 ∙ ap (λ l. noted_each l count) (sym n.1))

-- all of the first arrays, and some of those behind them
pub then_first : (xs ys : List Bool) (start between count' : Count) → between ≡ noted_each xs start → NotesFirst ys between count' → NotesFirst (xs ++ ys) start count'
then_first xs ys start between count' all some =
    (length xs + some.0, some.1 ∙ (ap (noted_each (take some.0 ys)) all ∙ (sym (noted_append xs (take some.0 ys) start) ∙ ap (λ l. noted_each l start) (sym (take-append-add xs ys some.0)))))

pub some_columns : (es : List (Entry Column)) (count count' : Count) → NotesSome es count count' → NotesFirst (column_copies es) count count'
some_columns es count count' some = (some.0, some.1 ∙ (noted_columns (take some.0 es) count ∙ ap (λ l. noted_each l count) (take_copies some.0 es)))
