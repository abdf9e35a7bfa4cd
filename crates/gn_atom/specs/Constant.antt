-- The value of a constant: a truth, an integer, a fixed number as a text, or three of these texts.
use Rattle.std.specs.Prelude.{ℤ, pos, negsuc, ◌&&◌, int_le, Option, Some, None, option_and_then, option_map, if◌then◌else◌}
use Rattle.serde_json.specs.Data.{Data, null, boolean, number, string, array, object, Items, no_items, item}
use Rattle.serde_json.specs.Find.{as_bool, as_str, as_array, as_number, as_i64}
use Rattle.gn_decimal.specs.Decimal.{num}
use Rattle.gn_value.specs.Values.{fx, v3}
use Rattle.gn_value.specs.declared.value.Value.{Value}
use Rattle.gn_value.specs.declared.value.Value.TheVariants.{Truth as truth, Int as int, Fixed as fixed, Vector as vector}
use Rattle.gn_value.specs.declared.value.ValueKind.{ValueKind}
use Rattle.gn_value.specs.declared.value.ValueKind.TheVariants.{Truth, Int, Fixed, Vector}

abbrev pub truth_in : Data → Option Value
truth_in d = option_map truth (as_bool d)

-- a whole number in 32 bits
abbrev pub int_of : ℤ → Option Value
int_of z = if int_le (negsuc 2147483647) z && int_le z (pos 2147483647) then Some (int z) else None

abbrev pub int_in : Data → Option Value
int_in d = option_and_then int_of (option_and_then as_i64 (as_number d))

-- the raw number of a text
abbrev pub number_in : Data → Option ℤ
number_in d = option_and_then num (as_str d)

abbrev pub fixed_in : Data → Option Value
fixed_in d = option_map (λ n. fixed (fx n)) (number_in d)

abbrev pub three_numbers : Items → Option Value
three_numbers (item x (item y (item z no_items))) =
    option_and_then (λ a. option_and_then (λ b. option_map (λ c. vector (v3 a b c)) (number_in z)) (number_in y)) (number_in x)
three_numbers _ = None

abbrev pub vector_in : Data → Option Value
vector_in d = option_and_then three_numbers (as_array d)

-- the constant of a kind that the value is
abbrev pub constant_as : ValueKind → Data → Option Value
constant_as Truth d = truth_in d
constant_as Int d = int_in d
constant_as Fixed d = fixed_in d
constant_as Vector d = vector_in d

-- the constant that the value is
abbrev pub constant_in : Data → Option Value
constant_in null = None
constant_in (boolean b) = truth_in (boolean b)
constant_in (number n) = int_in (number n)
constant_in (string s) = fixed_in (string s)
constant_in (array ds) = three_numbers ds
constant_in (object ms) = None
