-- The values at the outputs of nodes, worked out by hand. Fixed numbers go by quarters; there is one element, read nowhere.
use Rattle.std.proofs.Common.{◌≡◌, ◌^◌, List, [], ◌∷◌, map, Option, Some, None, true, false, ℤ, pos, negsuc, ◌*ℤ◌, codes, refl}
use Rattle.gn_root.specs.Roots.{greatest, root}
use Rattle.gn_value.specs.Arithmetic.{exact_product}
use Rattle.gn_value.specs.Values.{fx, v3, exact_length}
use Rattle.gn_value.specs.Operations.{vector_math_gives}
use Rattle.gn_value.specs.Rows.{row, math_row, integer_row, vector_row, boolean_row, compare_row, clamp_row, unit_part, range_part, between, map_range_row, mix_row, round_row}
use Rattle.gn_value.specs.declared.value.Value.{Value}
use Rattle.gn_value.specs.declared.value.Value.TheVariants.{Truth as truth, Int as int, Fixed as fixed, Vector as a_vector}
use Rattle.gn_value.specs.declared.value.ValueKind.TheVariants.{Int, Fixed}
use Rattle.gn_value.specs.declared.value.Place.TheVariants.{Point, Face}
use Rattle.gn_value.specs.declared.op.Op.TheVariants.{Math}
use Rattle.gn_value.specs.declared.op.MathOp.TheVariants as m
use Rattle.gn_value.specs.declared.op.IntegerMathOp.TheVariants as i
use Rattle.gn_value.specs.declared.op.VectorMathOp.TheVariants as v
use Rattle.gn_value.specs.declared.op.BooleanMathOp.TheVariants as b
use Rattle.gn_value.specs.declared.op.CompareOp.TheVariants as c
use Rattle.gn_value.specs.declared.op.CompareKind.TheVariants.{Int as Integers}
use Rattle.gn_value.specs.declared.op.MixKind.TheVariants.{Fixed as MixFixed}
use Rattle.gn_value.specs.declared.op.RoundMode.TheVariants as r
use Rattle.gn_plain.specs.Columns.{named}
use Rattle.gn_plain.specs.Contexts as read
use Rattle.gn_plain.specs.Contexts.{nowhere}
use Rattle.gn_plain.specs.Fields.{Expr, constant, input, apply, elsewhere, on_domain, none, and_one, no_sources, at}
use Rattle.gn_node_kind.specs.Kinds.{NodeKind, float, position, named_attribute, edge_vertices, vertex_neighbors, math, integer_math, vector_math, boolean_math, compare, clamp, map_range, mix, float_to_integer, combine_xyz, separate_xyz, accumulate_field, evaluate_on_domain, set_position, switch}
use Rattle.gn_kinds.specs.declared.row.SocketKind.TheVariants as socket
use Rattle.gn_field_rows.specs.Outputs.{field_outputs}

abbrev Field : Type 0
Field = Expr ⊥

abbrev quarters : ℤ → Value
quarters n = fixed (fx (n *ℤ pos (2 ^ 30)))

abbrev along : ℤ → ℤ → ℤ → Value
along x y z = a_vector (v3 (x *ℤ pos (2 ^ 30)) (y *ℤ pos (2 ^ 30)) (z *ℤ pos (2 ^ 30)))

abbrev whole : ℤ → Value
whole n = int n

abbrev values_of : Option (List Field) → List Value
values_of None = []
values_of (Some es) = map (λ e. at no_sources e nowhere 0) es

-- what a node gives for constants at its inputs
abbrev gives_for : NodeKind → List Value → List Value
gives_for kind inputs = values_of (field_outputs kind (map constant inputs))

-- ---- operations

-- 3.5 by 2, and the root of 6.25, which reads no b
numbers : (gives_for (math m.Divide) (quarters (pos 14) ∷ quarters (pos 8) ∷ []) ∷ gives_for (math m.Sqrt) (quarters (pos 25) ∷ quarters (pos 8) ∷ []) ∷ [])
    ≡ ((quarters (pos 7) ∷ []) ∷ (quarters (pos 10) ∷ []) ∷ [])
unfolding row math_row exact_product root greatest
numbers = refl

-- the arguments of an operation are those that it reads
one_argument : field_outputs {S = ⊥} (math m.Floor) (input read.index ∷ input read.id ∷ []) ≡ Some (apply (Math m.Floor) (and_one (input read.index) none) ∷ [])
one_argument = refl

-- -7 by 2 goes towards zero, and what is left has the sign of 2
integers : (gives_for (integer_math i.Divide) (whole (negsuc 6) ∷ whole (pos 2) ∷ []) ∷ gives_for (integer_math i.Modulo) (whole (negsuc 6) ∷ whole (pos 2) ∷ []) ∷ gives_for (integer_math i.Negate) (whole (pos 5) ∷ whole (pos 9) ∷ []) ∷ [])
    ≡ ((whole (negsuc 2) ∷ []) ∷ (whole (pos 1) ∷ []) ∷ (whole (negsuc 4) ∷ []) ∷ [])
unfolding row integer_row
integers = refl

-- (3, 4, 0) by 1/2, its length, and its sum with (1, 1, 1); the other output is zero
vectors : map (λ op. gives_for (vector_math op) (along (pos 12) (pos 16) (pos 0) ∷ along (pos 4) (pos 4) (pos 4) ∷ quarters (pos 2) ∷ [])) (v.Scale ∷ v.Length ∷ v.Add ∷ v.Dot ∷ [])
    ≡ ((along (pos 6) (pos 8) (pos 0) ∷ quarters (pos 0) ∷ [])
    ∷ (along (pos 0) (pos 0) (pos 0) ∷ quarters (pos 20) ∷ [])
    ∷ (along (pos 16) (pos 20) (pos 4) ∷ quarters (pos 0) ∷ [])
    ∷ (along (pos 0) (pos 0) (pos 0) ∷ quarters (pos 28) ∷ []) ∷ [])
unfolding row vector_row exact_product exact_length root greatest vector_math_gives
vectors = refl

truths : map (λ op. gives_for (boolean_math op) (truth true ∷ truth false ∷ [])) (b.And ∷ b.Or ∷ b.Xor ∷ b.Nand ∷ b.Nor ∷ b.Not ∷ [])
    ≡ ((truth false ∷ []) ∷ (truth true ∷ []) ∷ (truth true ∷ []) ∷ (truth true ∷ []) ∷ (truth false ∷ []) ∷ (truth false ∷ []) ∷ [])
unfolding row boolean_row
truths = refl

-- of 2 and 3
comparisons : map (λ op. gives_for (compare Integers op) (whole (pos 2) ∷ whole (pos 3) ∷ [])) (c.Less ∷ c.LessEqual ∷ c.Greater ∷ c.GreaterEqual ∷ c.Equal ∷ c.NotEqual ∷ [])
    ≡ ((truth true ∷ []) ∷ (truth true ∷ []) ∷ (truth false ∷ []) ∷ (truth false ∷ []) ∷ (truth false ∷ []) ∷ (truth true ∷ []) ∷ [])
unfolding row compare_row
comparisons = refl

-- 5 held between 0 and 1; 5 of 0 to 4 carried to 0 to 2, freely and held; 1/4 of the way from 1 to 3
ranges : (gives_for clamp (quarters (pos 20) ∷ quarters (pos 0) ∷ quarters (pos 4) ∷ [])
    ∷ gives_for (map_range false) (quarters (pos 20) ∷ quarters (pos 0) ∷ quarters (pos 16) ∷ quarters (pos 0) ∷ quarters (pos 8) ∷ [])
    ∷ gives_for (map_range true) (quarters (pos 20) ∷ quarters (pos 0) ∷ quarters (pos 16) ∷ quarters (pos 0) ∷ quarters (pos 8) ∷ [])
    ∷ gives_for (mix MixFixed) (quarters (pos 1) ∷ quarters (pos 4) ∷ quarters (pos 12) ∷ []) ∷ [])
    ≡ ((quarters (pos 4) ∷ []) ∷ (quarters (pos 10) ∷ []) ∷ (quarters (pos 8) ∷ []) ∷ (quarters (pos 6) ∷ []) ∷ [])
unfolding row clamp_row map_range_row mix_row unit_part range_part between exact_product
ranges = refl

-- of -2.5
rounding : map (λ op. gives_for (float_to_integer op) (quarters (negsuc 9) ∷ [])) (r.Round ∷ r.Floor ∷ r.Ceil ∷ r.Truncate ∷ [])
    ≡ ((whole (negsuc 1) ∷ []) ∷ (whole (negsuc 2) ∷ []) ∷ (whole (negsuc 1) ∷ []) ∷ (whole (negsuc 1) ∷ []) ∷ [])
unfolding row round_row
rounding = refl

components : (gives_for combine_xyz (quarters (pos 1) ∷ quarters (pos 2) ∷ quarters (pos 3) ∷ []) ∷ gives_for separate_xyz (along (pos 1) (pos 2) (pos 3) ∷ []) ∷ [])
    ≡ ((along (pos 1) (pos 2) (pos 3) ∷ []) ∷ (quarters (pos 1) ∷ quarters (pos 2) ∷ quarters (pos 3) ∷ []) ∷ [])
unfolding row
components = refl

-- ---- constants, what is read of an element, and what is read elsewhere

a_constant : field_outputs {S = ⊥} (float (fx (pos 7))) [] ≡ Some (constant (fixed (fx (pos 7))) ∷ [])
a_constant = refl

a_column : field_outputs {S = ⊥} (named_attribute (codes "heat") Fixed) [] ≡ Some (input (read.column (named (codes "heat")) Fixed) ∷ input (read.exists (codes "heat")) ∷ [])
a_column = refl

-- nowhere an input is zero, and so is a column's existence
nothing_read : (gives_for position [] ∷ gives_for (named_attribute (codes "heat") Int) [] ∷ gives_for edge_vertices [] ∷ gives_for vertex_neighbors [] ∷ [])
    ≡ ((along (pos 0) (pos 0) (pos 0) ∷ []) ∷ (whole (pos 0) ∷ truth false ∷ []) ∷ (whole (pos 0) ∷ whole (pos 0) ∷ along (pos 0) (pos 0) (pos 0) ∷ along (pos 0) (pos 0) (pos 0) ∷ []) ∷ (whole (pos 0) ∷ whole (pos 0) ∷ []) ∷ [])
nothing_read = refl

on_faces : field_outputs {S = ⊥} (evaluate_on_domain Int Face) (input read.index ∷ []) ≡ Some (elsewhere (on_domain Int Face) (and_one (input read.index) none) ∷ [])
on_faces = refl

sums_nowhere : gives_for (accumulate_field Int Point) (whole (pos 3) ∷ whole (pos 0) ∷ []) ≡ (whole (pos 0) ∷ whole (pos 0) ∷ whole (pos 0) ∷ [])
sums_nowhere = refl

-- kinds that give other things than fields
others : (field_outputs {S = ⊥} set_position [] ∷ field_outputs {S = ⊥} (switch socket.Int) [] ∷ []) ≡ (None ∷ None ∷ [])
others = refl
