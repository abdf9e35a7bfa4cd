-- Lists of values as lists of numbers, and back.
use Rattle.std.specs.Prelude.{ℕ, ℤ, pos, List, map, slice_index_or}
use Rattle.gn_value.specs.Arithmetic.{sat}
use Rattle.gn_value.specs.Values.{fx}
use Rattle.gn_value.specs.declared.fixed.Fx.{Fx}
use Rattle.gn_value.specs.declared.vector.V3.{V3}
use Rattle.gn_value.specs.declared.op.Axis.{Axis}
use Rattle.gn_value.specs.declared.op.Axis.TheVariants.{X, Y, Z}

-- the number of an element; past the end it is zero
abbrev pub number_at : List ℤ → ℕ → ℤ
number_at values i = slice_index_or values i (pos 0)

abbrev pub component_of : Axis → V3 → ℤ
component_of X v = v.x.0
component_of Y v = v.y.0
component_of Z v = v.z.0

abbrev pub components : Axis → List V3 → List ℤ
components axis values = map (component_of axis) values

-- the fixed number with the raw number nearest to one
abbrev pub fixed_number : ℤ → Fx
fixed_number n = fx (sat n)

-- the vector of the components of an element
abbrev pub vector_at : List Fx → List Fx → List Fx → ℕ → V3
vector_at x y z i = record { x = slice_index_or x i (fx (pos 0)); y = slice_index_or y i (fx (pos 0)); z = slice_index_or z i (fx (pos 0)) }
