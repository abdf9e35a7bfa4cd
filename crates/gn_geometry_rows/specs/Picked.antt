-- Single values, and which elements a selection holds.
use Rattle.std.specs.Prelude.{ℕ, ℤ, pos, negsuc, List, map, filter}
use Rattle.std.specs.List.{range_with_len}
use Rattle.gn_value.specs.Values.{as_truth, as_int, as_fixed, as_vector}
use Rattle.gn_value.specs.declared.vector.V3.{V3}
use Rattle.gn_value.specs.declared.value.Place.{Place}
use Rattle.gn_plain.specs.Columns.{Column, Values, kind_of_values, value_of}
use Rattle.gn_plain.specs.Contexts.{Context, length_of}
use Rattle.gn_plain.specs.Fields.{Expr, Sources, at}
use Rattle.gn_joins.specs.Joins.{values_in}
use Rattle.gn_rows.specs.Choices.{single}

-- a count below 1 is none
abbrev pub counted : ℤ → ℕ
counted (pos n) = n
counted (negsuc n) = 0

-- the values of some elements, in their order
abbrev pub picked : List ℕ → Values → Values
picked numbers values = values_in (kind_of_values values) (map (value_of values) numbers)

-- of columns too, which then are on another place
abbrev pub picked_columns : Place → List ℕ → List Column → List Column
picked_columns p numbers columns = map (λ c. record { name = c.name; place = p; column = picked numbers c.column }) columns

module _ {S : Type 0} (sources : Sources S) where
  abbrev pub count_of : Expr S → ℕ
  count_of e = counted (as_int (single sources e))

  abbrev pub vector_of : Expr S → V3
  vector_of e = as_vector (single sources e)

  abbrev pub number_of : Expr S → ℤ
  number_of e = as_fixed (single sources e)

  -- the numbers of the elements for which a field is true
  abbrev pub selected : Expr S → Context → List ℕ
  selected selection c = filter (λ i. as_truth (at sources selection c i)) (range_with_len 0 (length_of c))
