-- What clauses see of columns with their handles, and the plain columns that they stand for.
use Rattle.std.specs.Prelude.{◌≡◌, ◌≢◌, ◌⊎◌, ℕ, ◌==◌, Bool, List, [], ◌∷◌, take}
use Rattle.gn_value.specs.declared.value.Place.{Place}
use Rattle.gn_shared.specs.Count.{Count, with_copy}
use Rattle.gn_plain.specs.Columns.{Entry, Values, truths, ints, fixed_numbers, vectors, over}
use Rattle.gn_attr.specs.Handles.{noted_if, all_parts}
use Rattle.gn_attr.specs.declared.column.Column.{Column}
use Rattle.gn_attr.specs.declared.column.Column.TheVariants.{Truth, Int, Fixed, Vector}

-- ---- one column

-- the values, without the handle
abbrev pub values_of : Column → Values
values_of (Truth a) = truths a.items
values_of (Int a) = ints a.items
values_of (Fixed a) = fixed_numbers a.items
values_of (Vector a) = vectors a.items

abbrev pub parts_of : Column → ℕ
parts_of (Truth a) = a.parts
parts_of (Int a) = a.parts
parts_of (Fixed a) = a.parts
parts_of (Vector a) = a.parts

abbrev pub block_of : Column → ℕ
block_of (Truth a) = a.block
block_of (Int a) = a.block
block_of (Fixed a) = a.block
block_of (Vector a) = a.block

abbrev pub one_part : Column → Bool
one_part c = parts_of c == 1

-- the handle is the only one of its block
abbrev pub IsSoleColumn : Column → Type 0
IsSoleColumn c = parts_of c ≡ all_parts

-- the same values in the same block
abbrev pub KeepsColumn : Column → Column → Type 0
KeepsColumn before after = (values_of after ≡ values_of before) × (block_of after ≡ block_of before)

-- the same values, in the same block where the handle had more than one part
abbrev pub IsTwinColumn : Column → Column → Type 0
IsTwinColumn c twin = (values_of twin ≡ values_of c) × (parts_of c ≢ 1 → block_of twin ≡ block_of c)

-- the handle keeps its block and nothing is noted, or it was not sole and one copy is noted
abbrev pub OwnsColumn : Column → Column → Count → Count → Type 0
OwnsColumn before after count count' =
    ((block_of after ≡ block_of before) × (count' ≡ count)) ⊎ ((parts_of before ≢ all_parts) × (count' ≡ with_copy count))

-- ---- a list of columns

-- the plain columns
abbrev pub plain_columns : List (Entry Column) → List (Entry Values)
plain_columns es = over values_of es

abbrev pub found_of : Entry Column → Place × Column
found_of e = (e.place, e.column)

-- each handle is the only one of its block
abbrev pub AreSole : List (Entry Column) → Type 0
AreSole [] = Unit {0}
AreSole (e ∷ es) = IsSoleColumn e.column × AreSole es

-- the same name and place, and the same values in the same block
abbrev pub KeepsEntry : Entry Column → Entry Column → Type 0
KeepsEntry before after = (after.name ≡ before.name) × (after.place ≡ before.place) × KeepsColumn before.column after.column

-- the same name, place and values, in the same block where the handle had more than one part
abbrev pub IsTwinEntry : Entry Column → Entry Column → Type 0
IsTwinEntry e twin = (twin.name ≡ e.name) × (twin.place ≡ e.place) × IsTwinColumn e.column twin.column

-- one copy is noted for each column whose handle has one part
abbrev pub noted : List (Entry Column) → Count → Count
noted [] count = count
noted (e ∷ es) count = noted es (noted_if (one_part e.column) count)

-- copies are noted for the first columns up to some number
abbrev pub NotesSome : List (Entry Column) → Count → Count → Type 0
NotesSome es count count' = (n : ℕ) × (count' ≡ noted (take n es) count)
