use Rattle.std.specs.Prelude.{◌≡◌, ◌⊎◌, List, [], ◌∷◌, replicate}
use Rattle.gn_value.specs.declared.value.ValueKind.{ValueKind}
use Rattle.gn_value.specs.declared.value.ValueKind.TheVariants.{Truth, Int, Fixed, Vector}
use Rattle.gn_value.specs.declared.op.Op.{Op}
use Rattle.gn_value.specs.declared.op.Op.TheVariants.{Math, IntegerMath, VectorMath, BooleanMath, Compare, Clamp, MapRange, Mix, FloatToInteger, CombineXyz, SeparateXyz, RandomValue, Convert, Select}
use Rattle.gn_value.specs.declared.op.MathOp.{MathOp}
use Rattle.gn_value.specs.declared.op.MathOp.TheVariants.{Absolute, Sign, Floor, Ceil, Fraction, Sqrt}
use Rattle.gn_value.specs.declared.op.IntegerMathOp.{IntegerMathOp}
use Rattle.gn_value.specs.declared.op.IntegerMathOp.TheVariants.{Absolute as AbsoluteInteger, Sign as SignInteger, Negate}
use Rattle.gn_value.specs.declared.op.VectorMathOp.{VectorMathOp}
use Rattle.gn_value.specs.declared.op.VectorMathOp.TheVariants.{Absolute as AbsoluteVector, Scale, Normalize, Dot, Length, Distance}
use Rattle.gn_value.specs.declared.op.BooleanMathOp.{BooleanMathOp}
use Rattle.gn_value.specs.declared.op.BooleanMathOp.TheVariants.{Not}
use Rattle.gn_value.specs.declared.op.CompareKind.{CompareKind}
use Rattle.gn_value.specs.declared.op.CompareKind.TheVariants.{Int as Integers, Fixed as FixedNumbers}
use Rattle.gn_value.specs.declared.op.MixKind.{MixKind}
use Rattle.gn_value.specs.declared.op.MixKind.TheVariants.{Fixed as MixFixed, Vector as MixVector}

-- ---- the kinds of arguments that an operation takes, in order

abbrev pub math_takes : MathOp → List ValueKind
math_takes Absolute = Fixed ∷ []
math_takes Sign = Fixed ∷ []
math_takes Floor = Fixed ∷ []
math_takes Ceil = Fixed ∷ []
math_takes Fraction = Fixed ∷ []
math_takes Sqrt = Fixed ∷ []
math_takes _ = Fixed ∷ Fixed ∷ []

abbrev pub integer_math_takes : IntegerMathOp → List ValueKind
integer_math_takes AbsoluteInteger = Int ∷ []
integer_math_takes SignInteger = Int ∷ []
integer_math_takes Negate = Int ∷ []
integer_math_takes _ = Int ∷ Int ∷ []

abbrev pub vector_math_takes : VectorMathOp → List ValueKind
vector_math_takes AbsoluteVector = Vector ∷ []
vector_math_takes Normalize = Vector ∷ []
vector_math_takes Length = Vector ∷ []
vector_math_takes Scale = Vector ∷ Fixed ∷ []
vector_math_takes _ = Vector ∷ Vector ∷ []

abbrev pub boolean_math_takes : BooleanMathOp → List ValueKind
boolean_math_takes Not = Truth ∷ []
boolean_math_takes _ = Truth ∷ Truth ∷ []

abbrev pub compare_takes : CompareKind → List ValueKind
compare_takes Integers = Int ∷ Int ∷ []
compare_takes FixedNumbers = Fixed ∷ Fixed ∷ []

abbrev pub mix_takes : MixKind → List ValueKind
mix_takes MixFixed = Fixed ∷ Fixed ∷ Fixed ∷ []
mix_takes MixVector = Fixed ∷ Vector ∷ Vector ∷ []

abbrev pub random_takes : ValueKind → List ValueKind
random_takes Truth = Fixed ∷ Int ∷ Int ∷ []
random_takes kind = kind ∷ kind ∷ Int ∷ Int ∷ []

-- a choice goes by a truth or by an integer
abbrev pub Chooses : ValueKind → Type 0
Chooses by = (by ≡ Truth) ⊎ (by ≡ Int)

unfoldable pub Takes : Op → List ValueKind → Type 0
Takes (Math op) kinds = kinds ≡ math_takes op
Takes (IntegerMath op) kinds = kinds ≡ integer_math_takes op
Takes (VectorMath op) kinds = kinds ≡ vector_math_takes op
Takes (BooleanMath op) kinds = kinds ≡ boolean_math_takes op
Takes (Compare kind op) kinds = kinds ≡ compare_takes kind
Takes Clamp kinds = kinds ≡ Fixed ∷ Fixed ∷ Fixed ∷ []
Takes (MapRange clamp) kinds = kinds ≡ Fixed ∷ Fixed ∷ Fixed ∷ Fixed ∷ Fixed ∷ []
Takes (Mix kind) kinds = kinds ≡ mix_takes kind
Takes (FloatToInteger op) kinds = kinds ≡ Fixed ∷ []
Takes CombineXyz kinds = kinds ≡ Fixed ∷ Fixed ∷ Fixed ∷ []
Takes (SeparateXyz axis) kinds = kinds ≡ Vector ∷ []
Takes (RandomValue kind) kinds = kinds ≡ random_takes kind
Takes (Convert to) kinds = (kind : ValueKind) × (kinds ≡ kind ∷ [])
Takes (Select kind cases) kinds = (by : ValueKind) × Chooses by × (kinds ≡ by ∷ replicate cases kind)

-- ---- the kind of value that an operation gives

unfoldable pub vector_math_gives : VectorMathOp → ValueKind
vector_math_gives Dot = Fixed
vector_math_gives Length = Fixed
vector_math_gives Distance = Fixed
vector_math_gives _ = Vector

abbrev pub mix_gives : MixKind → ValueKind
mix_gives MixFixed = Fixed
mix_gives MixVector = Vector

unfoldable pub gives : Op → ValueKind
gives (Math op) = Fixed
gives (IntegerMath op) = Int
gives (VectorMath op) = vector_math_gives op
gives (BooleanMath op) = Truth
gives (Compare kind op) = Truth
gives Clamp = Fixed
gives (MapRange clamp) = Fixed
gives (Mix kind) = mix_gives kind
gives (FloatToInteger op) = Int
gives CombineXyz = Vector
gives (SeparateXyz axis) = Fixed
gives (RandomValue kind) = kind
gives (Convert to) = to
gives (Select kind cases) = kind
