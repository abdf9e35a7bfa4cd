-- Columns whose values are written over, where they are selected.
use Rattle.std.specs.Prelude.{◌≡◌, Bool, List, [], ◌∷◌, Some, IfSome, if◌then◌else◌}
use Rattle.gn_shared.specs.Count.{Count}
use Rattle.gn_plain.specs.Columns.{Name, Entry, Values, truths, ints, fixed_numbers, vectors, kind_of_values, count_of_values, entry_named, same_name}
use Rattle.gn_attr.specs.Columns.{values_of, IsSoleColumn, OwnsColumn}
use Rattle.gn_attr.specs.declared.column.Column.{Column}

-- the new values at the selected positions, and the old ones at the others
abbrev pub chosen : {T : Type 0} → List Bool → List T → List T → List T
chosen (selected ∷ ss) (new ∷ ns) (old ∷ os) = (if selected then new else old) ∷ chosen ss ns os
chosen _ _ os = os

abbrev pub values_chosen : List Bool → Values → Values → Values
values_chosen ss (truths ns) (truths os) = truths (chosen ss ns os)
values_chosen ss (ints ns) (ints os) = ints (chosen ss ns os)
values_chosen ss (fixed_numbers ns) (fixed_numbers os) = fixed_numbers (chosen ss ns os)
values_chosen ss (vectors ns) (vectors os) = vectors (chosen ss ns os)
values_chosen ss _ old = old

-- values of one kind, and as many
abbrev pub AreAlike : Values → Values → Type 0
AreAlike vs ws = (kind_of_values vs ≡ kind_of_values ws) × (count_of_values vs ≡ count_of_values ws)

-- a column of the name, if there is one, has values like these
abbrev pub CanTake : Name → Values → List (Entry Column) → Type 0
CanTake name values es = IfSome (entry_named name es) (λ e. AreAlike values (values_of e.column))

-- the columns with another one under a name, which keeps its number and its place
abbrev pub with_column : {C : Type 0} → Name → C → List (Entry C) → List (Entry C)
with_column name column [] = []
with_column name column (e ∷ es) =
    if same_name e.name name then record { name = e.name; place = e.place; column = column } ∷ es else e ∷ with_column name column es

-- The column of a name was written: it has the new values where they are selected, its handle is the only one of its block, and no other column is new.
pub record IsWritten (name : Name) (selected : List Bool) (values : Values) (old new : List (Entry Column)) (count count' : Count) : Type 0 where
  pub before : Entry Column
  pub after : Column
  pub found : entry_named name old ≡ Some before
  pub columns : new ≡ with_column name after old
  pub chosen : values_of after ≡ values_chosen selected values (values_of before.column)
  pub sole : IsSoleColumn after
  pub noted : OwnsColumn before.column after count count'
