-- The definitions at small values.
use Rattle.std.proofs.Common.{◌≡◌, ℕ, ◌^◌, true, false, List, [], ◌∷◌, pos, refl}
use Rattle.gn_value.specs.declared.value.Place.TheVariants.{Point, Face}
use Rattle.gn_shared.specs.Count.{Count}
use Rattle.gn_plain.specs.Columns.{named, Entry, Values, ints, fixed_numbers, with_entry, without_entry}
use Rattle.gn_attr.specs.Columns.{noted, plain_columns}
use Rattle.gn_attr.specs.Writing.{chosen, values_chosen, with_column}
use Rattle.gn_attr.specs.declared.column.Column.{Column}
use Rattle.gn_attr.specs.declared.column.Column.TheVariants.{Int}

middle_stays : chosen {T = ℕ} (true ∷ false ∷ true ∷ []) (7 ∷ 8 ∷ 9 ∷ []) (1 ∷ 2 ∷ 3 ∷ []) ≡ 7 ∷ 2 ∷ 9 ∷ []
middle_stays = refl

none_is_selected : values_chosen (false ∷ []) (ints (pos 7 ∷ [])) (ints (pos 1 ∷ [])) ≡ ints (pos 1 ∷ [])
none_is_selected = refl

-- integers in a block, with a number of parts
abbrev kept : ℕ → Column
kept parts = Int (record { items = pos 1 ∷ []; parts = parts; block = 5 })

-- the columns a and b, of which b has one part
abbrev both : List (Entry Column)
both = record { name = named (97 ∷ []); place = Point; column = kept (2 ^ 62) } ∷ record { name = named (98 ∷ []); place = Face; column = kept 1 } ∷ []

abbrev count : ℕ → Count
count copies = record { runs = 0; copies = copies }

one_copy_is_noted : noted both (count 3) ≡ count 4
one_copy_is_noted = refl

abbrev a : Entry Values
a = record { name = named (97 ∷ []); place = Point; column = ints (pos 1 ∷ []) }

abbrev b : Entry Values
b = record { name = named (98 ∷ []); place = Face; column = ints (pos 1 ∷ []) }

handles_are_forgotten : plain_columns both ≡ a ∷ b ∷ []
handles_are_forgotten = refl

-- the column under b is another one, on the same place
b_is_another : with_column (named (98 ∷ [])) (fixed_numbers []) (a ∷ b ∷ []) ≡ a ∷ record { name = named (98 ∷ []); place = Face; column = fixed_numbers [] } ∷ []
b_is_another = refl

-- a column of another name goes last, and one of a known name keeps its number
c_goes_last : with_entry (record { name = named (99 ∷ []); place = Point; column = ints [] }) (a ∷ b ∷ []) ≡ a ∷ b ∷ record { name = named (99 ∷ []); place = Point; column = ints [] } ∷ []
c_goes_last = refl

a_stays_first : with_entry (record { name = named (97 ∷ []); place = Face; column = ints [] }) (a ∷ b ∷ []) ≡ record { name = named (97 ∷ []); place = Face; column = ints [] } ∷ b ∷ []
a_stays_first = refl

b_closes_up : without_entry (named (97 ∷ [])) (a ∷ b ∷ []) ≡ b ∷ []
b_closes_up = refl
