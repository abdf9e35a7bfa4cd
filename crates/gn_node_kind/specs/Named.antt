-- The names of operations, each list in the order of the table of kinds.
use Rattle.std.specs.Prelude.{List, [], ◌∷◌, Option, Some, None, codes, bytes_eq, if◌then◌else◌}
use Rattle.gn_kinds.specs.Row.{Text}
use Rattle.gn_value.specs.declared.op.MathOp.{MathOp}
use Rattle.gn_value.specs.declared.op.MathOp.TheVariants as math
use Rattle.gn_value.specs.declared.op.IntegerMathOp.{IntegerMathOp}
use Rattle.gn_value.specs.declared.op.IntegerMathOp.TheVariants as integer
use Rattle.gn_value.specs.declared.op.VectorMathOp.{VectorMathOp}
use Rattle.gn_value.specs.declared.op.VectorMathOp.TheVariants as vector
use Rattle.gn_value.specs.declared.op.BooleanMathOp.{BooleanMathOp}
use Rattle.gn_value.specs.declared.op.BooleanMathOp.TheVariants as boolean
use Rattle.gn_value.specs.declared.op.CompareOp.{CompareOp}
use Rattle.gn_value.specs.declared.op.CompareOp.TheVariants as compare
use Rattle.gn_value.specs.declared.op.RoundMode.{RoundMode}
use Rattle.gn_value.specs.declared.op.RoundMode.TheVariants as round

-- what stands beside the first of these names that is the text
abbrev pub named_in : {A : Type 0} → List (Text × A) → Text → Option A
named_in [] name = None
named_in ((word, a) ∷ rest) name = if bytes_eq word name then Some a else named_in rest name

abbrev pub math_ops : List (Text × MathOp)
math_ops = (codes "add", math.Add) ∷ (codes "subtract", math.Subtract) ∷ (codes "multiply", math.Multiply) ∷ (codes "divide", math.Divide) ∷ (codes "modulo", math.Modulo)
    ∷ (codes "minimum", math.Minimum) ∷ (codes "maximum", math.Maximum) ∷ (codes "absolute", math.Absolute) ∷ (codes "sign", math.Sign) ∷ (codes "floor", math.Floor)
    ∷ (codes "ceil", math.Ceil) ∷ (codes "fraction", math.Fraction) ∷ (codes "sqrt", math.Sqrt) ∷ (codes "less_than", math.LessThan) ∷ (codes "greater_than", math.GreaterThan) ∷ []

abbrev pub integer_math_ops : List (Text × IntegerMathOp)
integer_math_ops = (codes "add", integer.Add) ∷ (codes "subtract", integer.Subtract) ∷ (codes "multiply", integer.Multiply) ∷ (codes "divide", integer.Divide)
    ∷ (codes "modulo", integer.Modulo) ∷ (codes "minimum", integer.Minimum) ∷ (codes "maximum", integer.Maximum) ∷ (codes "absolute", integer.Absolute)
    ∷ (codes "sign", integer.Sign) ∷ (codes "negate", integer.Negate) ∷ []

abbrev pub vector_math_ops : List (Text × VectorMathOp)
vector_math_ops = (codes "add", vector.Add) ∷ (codes "subtract", vector.Subtract) ∷ (codes "multiply", vector.Multiply) ∷ (codes "divide", vector.Divide)
    ∷ (codes "minimum", vector.Minimum) ∷ (codes "maximum", vector.Maximum) ∷ (codes "absolute", vector.Absolute) ∷ (codes "cross", vector.Cross) ∷ (codes "scale", vector.Scale)
    ∷ (codes "normalize", vector.Normalize) ∷ (codes "dot", vector.Dot) ∷ (codes "length", vector.Length) ∷ (codes "distance", vector.Distance) ∷ []

abbrev pub boolean_math_ops : List (Text × BooleanMathOp)
boolean_math_ops = (codes "and", boolean.And) ∷ (codes "or", boolean.Or) ∷ (codes "xor", boolean.Xor) ∷ (codes "nand", boolean.Nand) ∷ (codes "nor", boolean.Nor) ∷ (codes "not", boolean.Not) ∷ []

abbrev pub compare_ops : List (Text × CompareOp)
compare_ops = (codes "less", compare.Less) ∷ (codes "less_equal", compare.LessEqual) ∷ (codes "greater", compare.Greater) ∷ (codes "greater_equal", compare.GreaterEqual)
    ∷ (codes "equal", compare.Equal) ∷ (codes "not_equal", compare.NotEqual) ∷ []

abbrev pub round_modes : List (Text × RoundMode)
round_modes = (codes "round", round.Round) ∷ (codes "floor", round.Floor) ∷ (codes "ceil", round.Ceil) ∷ (codes "truncate", round.Truncate) ∷ []
