use Rattle.std.specs.Prelude.{ℕ, suc, ◌+◌, ◌%◌, ◌/◌, ◌^◌, Bool, false, not, ◌&&◌, ◌||◌, ℤ, pos, neg_ℤ, ◌+ℤ◌, ◌-ℤ◌, ◌*ℤ◌, int_lt, int_le, int_div, unsigned_abs, bit_xor, if◌then◌else◌, List, slice_index_or}
use Rattle.std.specs.Ordering.{int_eq}
use Rattle.std.specs.Int.{int_min, int_max, int_signum, cast_unsigned, w32}
use Rattle.gn_value.specs.Arithmetic.{one, raw_truth, sat_int, floor_div, sum_of, difference_of, product_of, quotient_of, modulo_of, magnitude_of, floor_of, ceil_of, root_of, mixed}
use Rattle.gn_value.specs.Values.{fx, v3, by_component, each_component, dot_of, cross_of, length_of, normalized, zero_of, converted}
use Rattle.gn_value.specs.declared.vector.V3.{V3}
use Rattle.gn_value.specs.declared.value.Value.{Value}
use Rattle.gn_value.specs.declared.value.Value.TheVariants.{Truth as truth, Int as int, Fixed as fixed, Vector as vector}
use Rattle.gn_value.specs.declared.value.ValueKind.{ValueKind}
use Rattle.gn_value.specs.declared.value.ValueKind.TheVariants.{Truth, Int, Fixed, Vector}
use Rattle.gn_value.specs.declared.op.Op.{Op}
use Rattle.gn_value.specs.declared.op.Op.TheVariants.{Math, IntegerMath, VectorMath, BooleanMath, Compare, Clamp, MapRange, Mix, FloatToInteger, CombineXyz, SeparateXyz, RandomValue, Convert, Select}
use Rattle.gn_value.specs.declared.op.MathOp.{MathOp}
use Rattle.gn_value.specs.declared.op.MathOp.TheVariants as m
use Rattle.gn_value.specs.declared.op.IntegerMathOp.{IntegerMathOp}
use Rattle.gn_value.specs.declared.op.IntegerMathOp.TheVariants as i
use Rattle.gn_value.specs.declared.op.VectorMathOp.{VectorMathOp}
use Rattle.gn_value.specs.declared.op.VectorMathOp.TheVariants as v
use Rattle.gn_value.specs.declared.op.BooleanMathOp.{BooleanMathOp}
use Rattle.gn_value.specs.declared.op.BooleanMathOp.TheVariants as b
use Rattle.gn_value.specs.declared.op.CompareOp.{CompareOp}
use Rattle.gn_value.specs.declared.op.CompareOp.TheVariants.{Less, LessEqual, Greater, GreaterEqual, Equal, NotEqual}
use Rattle.gn_value.specs.declared.op.CompareKind.{CompareKind}
use Rattle.gn_value.specs.declared.op.CompareKind.TheVariants.{Int as Integers, Fixed as FixedNumbers}
use Rattle.gn_value.specs.declared.op.MixKind.{MixKind}
use Rattle.gn_value.specs.declared.op.MixKind.TheVariants.{Fixed as MixFixed, Vector as MixVector}
use Rattle.gn_value.specs.declared.op.RoundMode.{RoundMode}
use Rattle.gn_value.specs.declared.op.RoundMode.TheVariants as r
use Rattle.gn_value.specs.declared.op.Axis.{Axis}
use Rattle.gn_value.specs.declared.op.Axis.TheVariants.{X, Y, Z}

-- What each operation gives. Fixed numbers go by their raw numbers.

unfoldable pub math_row : MathOp → ℤ → ℤ → ℤ
math_row m.Add a b = sum_of a b
math_row m.Subtract a b = difference_of a b
math_row m.Multiply a b = product_of a b
math_row m.Divide a b = quotient_of a b
math_row m.Modulo a b = modulo_of a b
math_row m.Minimum a b = int_min a b
math_row m.Maximum a b = int_max a b
math_row m.Absolute a _ = magnitude_of a
math_row m.Sign a _ = int_signum a *ℤ one
math_row m.Floor a _ = floor_of a
math_row m.Ceil a _ = ceil_of a
math_row m.Fraction a _ = a -ℤ floor_of a
math_row m.Sqrt a _ = root_of a
math_row m.LessThan a b = raw_truth (int_lt a b)
math_row m.GreaterThan a b = raw_truth (int_lt b a)

-- the quotient rounded towards zero; 0 where the divisor is 0
abbrev pub integer_quotient : ℤ → ℤ → ℤ
integer_quotient a b = if int_eq b (pos 0) then pos 0 else int_div a b

unfoldable pub integer_row : IntegerMathOp → ℤ → ℤ → ℤ
integer_row i.Add a b = sat_int (a +ℤ b)
integer_row i.Subtract a b = sat_int (a -ℤ b)
integer_row i.Multiply a b = sat_int (a *ℤ b)
integer_row i.Divide a b = sat_int (integer_quotient a b)
integer_row i.Modulo a b = modulo_of a b
integer_row i.Minimum a b = int_min a b
integer_row i.Maximum a b = int_max a b
integer_row i.Absolute a _ = sat_int (pos (unsigned_abs a))
integer_row i.Sign a _ = int_signum a
integer_row i.Negate a _ = sat_int (neg_ℤ a)

unfoldable pub vector_row : VectorMathOp → V3 → V3 → ℤ → Value
vector_row v.Add a b _ = vector (by_component sum_of a b)
vector_row v.Subtract a b _ = vector (by_component difference_of a b)
vector_row v.Multiply a b _ = vector (by_component product_of a b)
vector_row v.Divide a b _ = vector (by_component quotient_of a b)
vector_row v.Minimum a b _ = vector (by_component int_min a b)
vector_row v.Maximum a b _ = vector (by_component int_max a b)
vector_row v.Absolute a _ _ = vector (each_component magnitude_of a)
vector_row v.Cross a b _ = vector (cross_of a b)
vector_row v.Scale a _ scale = vector (each_component (λ c. product_of c scale) a)
vector_row v.Normalize a _ _ = vector (normalized a)
vector_row v.Dot a b _ = fixed (fx (dot_of a b))
vector_row v.Length a _ _ = fixed (fx (length_of a))
vector_row v.Distance a b _ = fixed (fx (length_of (by_component difference_of a b)))

unfoldable pub boolean_row : BooleanMathOp → Bool → Bool → Bool
boolean_row b.And a c = a && c
boolean_row b.Or a c = a || c
boolean_row b.Xor a c = if a then not c else c
boolean_row b.Nand a c = not (a && c)
boolean_row b.Nor a c = not (a || c)
boolean_row b.Not a _ = not a

unfoldable pub compare_row : CompareOp → ℤ → ℤ → Bool
compare_row Less a b = int_lt a b
compare_row LessEqual a b = int_le a b
compare_row Greater a b = int_lt b a
compare_row GreaterEqual a b = int_le b a
compare_row Equal a b = int_eq a b
compare_row NotEqual a b = not (int_eq a b)

unfoldable pub clamp_row : ℤ → ℤ → ℤ → ℤ
clamp_row value low high = int_min high (int_max value low)

-- a number brought into 0 to 1
unfoldable pub unit_part : ℤ → ℤ
unit_part a = int_min one (int_max a (pos 0))

-- how far a value lies from the start of a range towards its end
unfoldable pub range_part : Bool → ℤ → ℤ → ℤ → ℤ
range_part clamp value low high =
    let part = quotient_of (difference_of value low) (difference_of high low) in
    if clamp then unit_part part else part

-- the number that lies this part of the way from a to b
unfoldable pub between : ℤ → ℤ → ℤ → ℤ
between part a b = sum_of a (product_of (difference_of b a) part)

unfoldable pub map_range_row : Bool → ℤ → ℤ → ℤ → ℤ → ℤ → ℤ
map_range_row clamp value from_min from_max to_min to_max =
    between (range_part clamp value from_min from_max) to_min to_max

unfoldable pub mix_row : ℤ → ℤ → ℤ → ℤ
mix_row factor a b = between (unit_part factor) a b

-- the exact quotient by 2 ^ 32 rounded, and then brought into the range of an integer
unfoldable pub round_row : RoundMode → ℤ → ℤ
round_row r.Round a = sat_int (floor_div (a +ℤ pos (2 ^ 31)) one)
round_row r.Floor a = sat_int (floor_div a one)
round_row r.Ceil a = sat_int (neg_ℤ (floor_div (neg_ℤ a) one))
round_row r.Truncate a = sat_int (int_div a one)

abbrev pub component_row : Axis → V3 → ℤ
component_row X a = a.x.0
component_row Y a = a.y.0
component_row Z a = a.z.0

-- ---- random values

-- the hash of a seed and an id, which count by their bits
unfoldable pub random_hash : ℤ → ℤ → ℕ
random_hash id seed =
    mixed (bit_xor (mixed ((cast_unsigned w32 seed + 0x9E3779B97F4A7C15) % 2 ^ 64)) (cast_unsigned w32 id))

-- the high half of a hash: a raw number from 0 up to 1
abbrev pub high_half : ℕ → ℕ
high_half hash = hash / 2 ^ 32

unfoldable pub random_fixed : ℤ → ℤ → ℕ → ℤ
random_fixed low high hash = between (pos (high_half hash)) low high

-- an integer from the least to the greatest, each as likely; the least where they are turned round
unfoldable pub random_int : ℤ → ℤ → ℕ → ℤ
random_int low high hash =
    if int_lt high low then low
    else low +ℤ floor_div (pos (high_half hash) *ℤ (high -ℤ low +ℤ pos 1)) one

-- each component has a hash of its own
unfoldable pub component_hash : ℕ → ℕ → ℕ
component_hash hash component = mixed ((hash + component) % 2 ^ 64)

unfoldable pub random_vector : V3 → V3 → ℕ → V3
random_vector low high hash = v3
    (random_fixed low.x.0 high.x.0 (component_hash hash 0))
    (random_fixed low.y.0 high.y.0 (component_hash hash 1))
    (random_fixed low.z.0 high.z.0 (component_hash hash 2))

unfoldable pub random_truth : ℤ → ℕ → Bool
random_truth probability hash = int_lt (pos (high_half hash)) probability

-- ---- the arguments of an operation

abbrev pub value_at : List Value → ℕ → Value
value_at args k = slice_index_or args k (truth false)

-- what a value of a kind holds; the zero of that kind where it is of another
abbrev pub truth_in : Value → Bool
truth_in (truth b) = b
truth_in _ = false

abbrev pub int_in : Value → ℤ
int_in (int n) = n
int_in _ = pos 0

abbrev pub fixed_in : Value → ℤ
fixed_in (fixed x) = x.0
fixed_in _ = pos 0

abbrev pub vector_in : Value → V3
vector_in (vector v) = v
vector_in _ = v3 (pos 0) (pos 0) (pos 0)

abbrev pub truth_at : List Value → ℕ → Bool
truth_at args k = truth_in (value_at args k)

abbrev pub int_at : List Value → ℕ → ℤ
int_at args k = int_in (value_at args k)

abbrev pub fixed_at : List Value → ℕ → ℤ
fixed_at args k = fixed_in (value_at args k)

abbrev pub vector_at : List Value → ℕ → V3
vector_at args k = vector_in (value_at args k)

-- ---- the row of each operation

abbrev pub compare_values : CompareKind → CompareOp → List Value → Bool
compare_values Integers op args = compare_row op (int_at args 0) (int_at args 1)
compare_values FixedNumbers op args = compare_row op (fixed_at args 0) (fixed_at args 1)

abbrev pub mix_values : MixKind → List Value → Value
mix_values MixFixed args = fixed (fx (mix_row (fixed_at args 0) (fixed_at args 1) (fixed_at args 2)))
mix_values MixVector args = vector (by_component (mix_row (fixed_at args 0)) (vector_at args 1) (vector_at args 2))

abbrev pub random_values : ValueKind → List Value → Value
random_values Truth args = truth (random_truth (fixed_at args 0) (random_hash (int_at args 1) (int_at args 2)))
random_values Int args = int (random_int (int_at args 0) (int_at args 1) (random_hash (int_at args 2) (int_at args 3)))
random_values Fixed args = fixed (fx (random_fixed (fixed_at args 0) (fixed_at args 1) (random_hash (int_at args 2) (int_at args 3))))
random_values Vector args = vector (random_vector (vector_at args 0) (vector_at args 1) (random_hash (int_at args 2) (int_at args 3)))

-- the number by which a choice goes
abbrev pub choice_of : Value → ℤ
choice_of (truth b) = if b then pos 1 else pos 0
choice_of value = int_in value

-- the value with the number that the choice says; the zero of the kind if no value has it
unfoldable pub chosen : ValueKind → ℕ → List Value → Value
chosen kind cases args =
    let choice = choice_of (value_at args 0) in
    if int_le (pos 0) choice && int_lt choice (pos cases) then value_at args (suc (unsigned_abs choice)) else zero_of kind

unfoldable pub row : Op → List Value → Value
row (Math op) args = fixed (fx (math_row op (fixed_at args 0) (fixed_at args 1)))
row (IntegerMath op) args = int (integer_row op (int_at args 0) (int_at args 1))
row (VectorMath op) args = vector_row op (vector_at args 0) (vector_at args 1) (fixed_at args 1)
row (BooleanMath op) args = truth (boolean_row op (truth_at args 0) (truth_at args 1))
row (Compare kind op) args = truth (compare_values kind op args)
row Clamp args = fixed (fx (clamp_row (fixed_at args 0) (fixed_at args 1) (fixed_at args 2)))
row (MapRange clamp) args =
    fixed (fx (map_range_row clamp (fixed_at args 0) (fixed_at args 1) (fixed_at args 2) (fixed_at args 3) (fixed_at args 4)))
row (Mix kind) args = mix_values kind args
row (FloatToInteger op) args = int (round_row op (fixed_at args 0))
row CombineXyz args = vector (v3 (fixed_at args 0) (fixed_at args 1) (fixed_at args 2))
row (SeparateXyz axis) args = fixed (fx (component_row axis (vector_at args 0)))
row (RandomValue kind) args = random_values kind args
row (Convert to) args = converted (value_at args 0) to
row (Select kind cases) args = chosen kind cases args
