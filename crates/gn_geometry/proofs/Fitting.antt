-- Columns that fit still do after a change.
use Rattle.std.proofs.Common.{◌≡◌, ℕ, suc, Bool, true, false, cond, List, [], ◌∷◌, length, Option, Some, None, Result, Ok, Err, OnOk, OnErr, IfSome, IfNone, ap, sym, refl, ◌∙◌, subst}
use Rattle.std.specs.List.{AllZip}
use Rattle.gn_value.specs.declared.value.Place.{Place}
use Rattle.gn_shared.specs.Count.{Count}
use Rattle.gn_plain.specs.Columns.{Name, Entry, Values, truths, ints, fixed_numbers, vectors, count_of_values, entry_named, same_name, with_entry, without_entry}
use Rattle.gn_attr.specs.Columns.{values_of, KeepsEntry, IsTwinEntry}
use Rattle.gn_attr.specs.Writing.{chosen, values_chosen, with_column, IsWritten}
use Rattle.gn_attr.specs.declared.column.Column.{Column}
use Rattle.gn_geometry.specs.Fits.{AreFitting, Fits}

-- as many values fit
fits_like : (count : Place → Option ℕ) (p q : Place) (c d : Column) → q ≡ p → values_of d ≡ values_of c → Fits count p c → Fits count q d
fits_like count p q c d places values fits = ap count places ∙ (fits ∙ ap (λ vs. Some (count_of_values vs)) (sym values))

pub fit_same : (f g : Place → Option ℕ) → ((p : Place) → g p ≡ f p) → (es : List (Entry Column)) → AreFitting f es → AreFitting g es
fit_same f g same [] fit = tt
fit_same f g same (e ∷ es) fit = (same e.place ∙ fit.0, fit_same f g same es fit.1)

module _ (count : Place → Option ℕ) where
  with_by : (x e : Entry Column) (es : List (Entry Column)) (b : Bool) → Fits count x.place x.column → Fits count e.place e.column → AreFitting count es → AreFitting count (with_entry x es)
      → AreFitting count (cond b (let r : Entry Column = record { name = e.name; place = x.place; column = x.column } in r ∷ es) (e ∷ with_entry x es))
  with_by x e es true fits here rest more = (fits, rest)
  with_by x e es false fits here rest more = (here, more)

  pub fit_with : (x : Entry Column) (es : List (Entry Column)) → AreFitting count es → Fits count x.place x.column → AreFitting count (with_entry x es)
  fit_with x [] fit fits = (fits, tt)
  fit_with x (e ∷ es) fit fits = with_by x e es (same_name e.name x.name) fits fit.0 fit.1 (fit_with x es fit.1 fits)

  without_by : (e : Entry Column) (es fs : List (Entry Column)) (b : Bool) → Fits count e.place e.column → AreFitting count es → AreFitting count fs → AreFitting count (cond b es (e ∷ fs))
  without_by e es fs true here rest more = rest
  without_by e es fs false here rest more = (here, more)

  pub fit_without : (name : Name) (es : List (Entry Column)) → AreFitting count es → AreFitting count (without_entry name es)
  fit_without name [] fit = tt
  fit_without name (e ∷ es) fit = without_by e es (without_entry name es) (same_name e.name name) fit.0 fit.1 (fit_without name es fit.1)

  column_by : (name : Name) (before e : Entry Column) (after : Column) (es : List (Entry Column)) (b : Bool) → count_of_values (values_of after) ≡ count_of_values (values_of before.column)
      → cond b (Some e) (entry_named name es) ≡ Some before → Fits count e.place e.column → AreFitting count es → (entry_named name es ≡ Some before → AreFitting count (with_column name after es))
      → AreFitting count (cond b (let r : Entry Column = record { name = e.name; place = e.place; column = after } in r ∷ es) (e ∷ with_column name after es))
  column_by name before e after es true many found here rest more =
      let same : e ≡ before = cc in
      (here ∙ ap Some (ap (λ (x : Entry Column). count_of_values (values_of x.column)) same ∙ sym many), rest)
  column_by name before e after es false many found here rest more = (here, more found)

  -- the column of a name is another one, with as many values
  pub fit_column : (name : Name) (before : Entry Column) (after : Column) (es : List (Entry Column)) → count_of_values (values_of after) ≡ count_of_values (values_of before.column)
      → entry_named name es ≡ Some before → AreFitting count es → AreFitting count (with_column name after es)
  fit_column name before after [] many found fit = tt
  fit_column name before after (e ∷ es) many found fit =
      column_by name before e after es (same_name e.name name) many found fit.0 fit.1 (λ there. fit_column name before after es many there fit.1)

  pub fit_kept : (es fs : List (Entry Column)) → AllZip KeepsEntry es fs → AreFitting count es → AreFitting count fs
  fit_kept [] [] kept fit = tt
  fit_kept [] (f ∷ fs) kept fit = absurd kept
  fit_kept (e ∷ es) [] kept fit = absurd kept
  fit_kept (e ∷ es) (f ∷ fs) kept fit = (fits_like count e.place f.place e.column f.column kept.0.1 kept.0.2.0 fit.0, fit_kept es fs kept.1 fit.1)

  pub fit_twins : (es fs : List (Entry Column)) → AllZip IsTwinEntry es fs → AreFitting count es → AreFitting count fs
  fit_twins [] [] twins fit = tt
  fit_twins [] (f ∷ fs) twins fit = absurd twins
  fit_twins (e ∷ es) [] twins fit = absurd twins
  fit_twins (e ∷ es) (f ∷ fs) twins fit = (fits_like count e.place f.place e.column f.column twins.0.1 twins.0.2.0 fit.0, fit_twins es fs twins.1 fit.1)

length_chosen : {T : Type 0} (ss : List Bool) (ns os : List T) → length (chosen ss ns os) ≡ length os
length_chosen [] ns os = refl
length_chosen (s ∷ ss) [] os = refl
length_chosen (s ∷ ss) (n ∷ ns) [] = refl
length_chosen (s ∷ ss) (n ∷ ns) (o ∷ os) = ap suc (length_chosen ss ns os)

count_chosen : (ss : List Bool) (ns os : Values) → count_of_values (values_chosen ss ns os) ≡ count_of_values os
count_chosen ss (truths ns) (truths os) = length_chosen ss ns os
count_chosen ss (ints ns) (ints os) = length_chosen ss ns os
count_chosen ss (fixed_numbers ns) (fixed_numbers os) = length_chosen ss ns os
count_chosen ss (vectors ns) (vectors os) = length_chosen ss ns os
count_chosen ss (truths ns) (ints os) = refl
count_chosen ss (truths ns) (fixed_numbers os) = refl
count_chosen ss (truths ns) (vectors os) = refl
count_chosen ss (ints ns) (truths os) = refl
count_chosen ss (ints ns) (fixed_numbers os) = refl
count_chosen ss (ints ns) (vectors os) = refl
count_chosen ss (fixed_numbers ns) (truths os) = refl
count_chosen ss (fixed_numbers ns) (ints os) = refl
count_chosen ss (fixed_numbers ns) (vectors os) = refl
count_chosen ss (vectors ns) (truths os) = refl
count_chosen ss (vectors ns) (ints os) = refl
count_chosen ss (vectors ns) (fixed_numbers os) = refl

-- a column was written
pub fit_written : (count : Place → Option ℕ) (name : Name) (selected : List Bool) (values : Values) (old new : List (Entry Column)) (c c' : Count) → IsWritten name selected values old new c c' → AreFitting count old → AreFitting count new
fit_written count name selected values old new c c' is fit =
    let many : count_of_values (values_of is.after) ≡ count_of_values (values_of is.before.column) = ap count_of_values is.chosen ∙ count_chosen selected values (values_of is.before.column) in
    subst (AreFitting count) (sym is.columns) (fit_column count name is.before is.after old many is.found fit)

-- a column was put under a name, or nothing changed
pub fit_set : {A E : Type 0} (count : Place → Option ℕ) (x : Entry Column) (old new : List (Entry Column)) (r : Result A E) → OnOk r (new ≡ with_entry x old) → OnErr r (new ≡ old) → AreFitting count old
    → Fits count x.place x.column → AreFitting count new
fit_set count x old new (Ok a) ok err fit fits = subst (AreFitting count) (sym ok) (fit_with count x old fit fits)
fit_set count x old new (Err e) ok err fit fits = subst (AreFitting count) (sym err) fit

-- a column was written, or nothing changed
pub fit_wrote : {A E : Type 0} (count : Place → Option ℕ) (name : Name) (selected : List Bool) (values : Values) (old new : List (Entry Column)) (c c' : Count) (r : Option (Result A E))
    → IfSome r (λ r. OnOk r (IsWritten name selected values old new c c')) → IfSome r (λ r. OnErr r ((new ≡ old) × (c' ≡ c))) → IfNone r ((new ≡ old) × (c' ≡ c)) → AreFitting count old → AreFitting count new
fit_wrote count name selected values old new c c' None written refused absent fit = subst (AreFitting count) (sym absent.0) fit
fit_wrote count name selected values old new c c' (Some (Ok a)) written refused absent fit = fit_written count name selected values old new c c' written fit
fit_wrote count name selected values old new c c' (Some (Err e)) written refused absent fit = subst (AreFitting count) (sym refused.0) fit
