-- Values of one kind that are put behind one another.
use Rattle.std.specs.Prelude.{ℕ, List, ◌++◌, map}
use Rattle.std.specs.List.{range_with_len}
use Rattle.gn_value.specs.Values.{fx, as_truth, as_int, as_fixed, as_vector}
use Rattle.gn_value.specs.declared.value.Place.{Place}
use Rattle.gn_value.specs.declared.value.Value.{Value}
use Rattle.gn_value.specs.declared.op.Register.{Register}
use Rattle.gn_value.specs.declared.op.Register.TheVariants.{Truth, Int, Fixed, Vector}
use Rattle.gn_plain.specs.Columns.{Values, truths, ints, fixed_numbers, vectors, kind_of_values, value_of}
use Rattle.gn_joins.specs.Joins.{Part}

-- the values of a register
abbrev pub values_of : Register → Values
values_of (Truth xs) = truths xs.items
values_of (Int xs) = ints xs.items
values_of (Fixed xs) = fixed_numbers xs.items
values_of (Vector xs) = vectors xs.items

-- more values behind others, as values of their kind
abbrev pub values_behind : Values → List Value → Values
values_behind (truths xs) vs = truths (xs ++ map as_truth vs)
values_behind (ints xs) vs = ints (xs ++ map as_int vs)
values_behind (fixed_numbers xs) vs = fixed_numbers (xs ++ map (λ v. fx (as_fixed v)) vs)
values_behind (vectors xs) vs = vectors (xs ++ map as_vector vs)

-- the first values of a column
abbrev pub first_values : Values → ℕ → List Value
first_values column count = map (value_of column) (range_with_len 0 count)

-- the values of a column on a place of a part, in their own kind
abbrev pub values_on : Part → Place → Place → Values → List Value
values_on p from to column = map (p.component.interpolated (kind_of_values column) from to (value_of column)) (range_with_len 0 (p.component.count to))
