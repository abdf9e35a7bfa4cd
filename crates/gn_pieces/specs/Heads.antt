-- The columns of a join, one name after another.
use Rattle.std.specs.Prelude.{List, [], ◌∷◌, ◌++◌, Option, unwrap_or, is_some, if◌then◌else◌}
use Rattle.std.specs.List.{flat_map}
use Rattle.gn_value.specs.declared.value.Place.{Place}
use Rattle.gn_value.specs.declared.value.ValueKind.{ValueKind}
use Rattle.gn_plain.specs.Columns.{Entry, Column, entry_named, kind_of_values}
use Rattle.gn_joins.specs.Joins.{Part, part_values, values_in}

-- the name of a column with its kind, on the column's own place or on another
abbrev pub head_on : Option Place → Column → Entry ValueKind
head_on on c = record { name = c.name; place = unwrap_or on c.place; column = kind_of_values c.column }

-- the values of parts under a name one behind another
abbrev pub column_under : List Part → Entry ValueKind → Column
column_under ps h = record { name = h.name; place = h.place; column = values_in h.column (flat_map (part_values h) ps) }

-- one more column of a join, unless its name is there
abbrev pub with_joined : List Part → List Column → Entry ValueKind → List Column
with_joined ps joined h = if is_some (entry_named h.name joined) then joined else joined ++ column_under ps h ∷ []
