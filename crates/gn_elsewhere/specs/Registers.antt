-- Registers as the values of columns.
use Rattle.gn_value.specs.declared.op.Register.{Register}
use Rattle.gn_value.specs.declared.op.Register.TheVariants.{Truth, Int, Fixed, Vector}
use Rattle.gn_plain.specs.Columns.{Values, truths, ints, fixed_numbers, vectors}

abbrev pub values_in : Register → Values
values_in (Truth values) = truths values.items
values_in (Int values) = ints values.items
values_in (Fixed values) = fixed_numbers values.items
values_in (Vector values) = vectors values.items
