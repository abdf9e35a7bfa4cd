use Rattle.std.proofs.Common.{◌≡◌, refl, ◌^◌, ◌*◌, ◌-◌, [], ◌∷◌, map, true, false, ℤ, pos, negsuc, neg_ℤ, ◌*ℤ◌}
use Rattle.gn_root.specs.Roots.{greatest, root}
use Rattle.gn_value.specs.Arithmetic.{one, sum_of, product_of, quotient_of, modulo_of, magnitude_of, ceil_of, exact_product, total_by, mean_of, sat, folded, mixed}
use Rattle.gn_value.specs.Values.{fx, v3, exact_length, normalized, converted}
use Rattle.gn_value.specs.Rows.{math_row, integer_row, vector_row, boolean_row, compare_row, clamp_row, unit_part, range_part, between, map_range_row, mix_row, round_row, random_fixed, random_int, random_truth, chosen, row}
use Rattle.gn_value.specs.declared.value.Value.TheVariants.{Truth as truth, Int as int, Fixed as fixed, Vector as vector}
use Rattle.gn_value.specs.declared.value.ValueKind.TheVariants as k
use Rattle.gn_value.specs.declared.op.Op.TheVariants.{CombineXyz, SeparateXyz, Select}
use Rattle.gn_value.specs.declared.op.MathOp.TheVariants as m
use Rattle.gn_value.specs.declared.op.IntegerMathOp.TheVariants as i
use Rattle.gn_value.specs.declared.op.VectorMathOp.TheVariants as v
use Rattle.gn_value.specs.declared.op.BooleanMathOp.TheVariants as b
use Rattle.gn_value.specs.declared.op.CompareOp.TheVariants as c
use Rattle.gn_value.specs.declared.op.RoundMode.TheVariants as r
use Rattle.gn_value.specs.declared.op.Axis.TheVariants.{Z}

-- The definitions at numbers that were worked out by hand. Fixed numbers go by quarters.

abbrev quarters : ℤ → ℤ
quarters n = n *ℤ pos (2 ^ 30)

abbrev least : ℤ
least = negsuc (2 ^ 63 - 1)

abbrev most : ℤ
most = pos (2 ^ 63 - 1)

-- sums stop at the end of the range, and products and quotients are rounded down
rounded : (sum_of most one ∷ product_of (negsuc 0) (pos 1) ∷ quotient_of (negsuc 0) (quarters (pos 8)) ∷ quotient_of one (pos 0) ∷ quotient_of (negsuc 0) (pos 0) ∷ [])
    ≡ (most ∷ negsuc 0 ∷ negsuc 0 ∷ pos 0 ∷ pos 0 ∷ [])
unfolding exact_product
rounded = refl

-- at the least number
at_least : (magnitude_of least ∷ product_of least (neg_ℤ one) ∷ quotient_of least (neg_ℤ one) ∷ modulo_of least (neg_ℤ one) ∷ ceil_of most ∷ [])
    ≡ (most ∷ most ∷ most ∷ pos 0 ∷ most ∷ [])
unfolding exact_product
at_least = refl

-- the first two numbers of SplitMix64 from seed 0
mixes : (mixed 0 ∷ mixed 0x9E3779B97F4A7C15 ∷ mixed 0x3C6EF372FE94F82A ∷ []) ≡ (0 ∷ 16294208416658607535 ∷ 7960286522194355700 ∷ [])
unfolding mixed folded
mixes = refl

-- exact sums come back from far out of range, and a mean is rounded down once
sums : (sat (total_by (λ n. n) (most ∷ most ∷ least ∷ [])) ∷ mean_of (negsuc 0) 3 ∷ mean_of (negsuc 0) 2 ∷ mean_of (pos 0) 2 ∷ mean_of (pos 5) 0 ∷ [])
    ≡ (pos (2 ^ 63 - 2) ∷ negsuc 0 ∷ negsuc 0 ∷ pos 0 ∷ pos 0 ∷ [])
sums = refl

conversions : (converted (fixed (fx (quarters (negsuc 5)))) k.Int ∷ converted (vector (v3 one (pos 0) (negsuc 0))) k.Fixed ∷ converted (vector (v3 (pos 0) (negsuc 0) (pos 0))) k.Truth ∷ converted (fixed (fx (negsuc 0))) k.Truth ∷ converted (int (negsuc 1)) k.Vector ∷ converted (truth true) k.Int ∷ [])
    ≡ (int (negsuc 0) ∷ fixed (fx (pos 1431655765)) ∷ truth true ∷ truth false ∷ vector (v3 (quarters (negsuc 7)) (quarters (negsuc 7)) (quarters (negsuc 7))) ∷ int (pos 1) ∷ [])
unfolding converted
conversions = refl

-- of -2.5 and 2
math : map (λ op. math_row op (quarters (negsuc 9)) (quarters (pos 8)))
    (m.Add ∷ m.Subtract ∷ m.Multiply ∷ m.Divide ∷ m.Modulo ∷ m.Minimum ∷ m.Maximum ∷ m.Absolute ∷ m.Sign ∷ m.Floor ∷ m.Ceil ∷ m.Fraction ∷ m.Sqrt ∷ m.LessThan ∷ m.GreaterThan ∷ [])
    ≡ map quarters (negsuc 1 ∷ negsuc 17 ∷ negsuc 19 ∷ negsuc 4 ∷ pos 6 ∷ negsuc 9 ∷ pos 8 ∷ pos 10 ∷ negsuc 3 ∷ negsuc 11 ∷ negsuc 7 ∷ pos 2 ∷ pos 0 ∷ pos 4 ∷ pos 0 ∷ [])
unfolding math_row exact_product
math = refl

square_root : math_row m.Sqrt (quarters (pos 9)) (pos 0) ≡ quarters (pos 6)
unfolding math_row root greatest
square_root = refl

-- of -7 and 2, of the least integer and -1, and by 0
integers : map (λ op. integer_row op (negsuc 6) (pos 2))
    (i.Add ∷ i.Subtract ∷ i.Multiply ∷ i.Divide ∷ i.Modulo ∷ i.Minimum ∷ i.Maximum ∷ i.Absolute ∷ i.Sign ∷ i.Negate ∷ [])
    ≡ (negsuc 4 ∷ negsuc 8 ∷ negsuc 13 ∷ negsuc 2 ∷ pos 1 ∷ negsuc 6 ∷ pos 2 ∷ pos 7 ∷ negsuc 0 ∷ pos 7 ∷ [])
unfolding integer_row
integers = refl

least_integer : map (λ op. integer_row op (negsuc (2 ^ 31 - 1)) (negsuc 0)) (i.Divide ∷ i.Modulo ∷ i.Absolute ∷ i.Negate ∷ i.Add ∷ [])
    ≡ (pos (2 ^ 31 - 1) ∷ pos 0 ∷ pos (2 ^ 31 - 1) ∷ pos (2 ^ 31 - 1) ∷ negsuc (2 ^ 31 - 1) ∷ [])
unfolding integer_row
least_integer = refl

integers_by_zero : map (λ op. integer_row op (negsuc 6) (pos 0)) (i.Divide ∷ i.Modulo ∷ []) ≡ (pos 0 ∷ pos 0 ∷ [])
unfolding integer_row
integers_by_zero = refl

-- of (3, 0, -4) and (1, 2, 0), in whole numbers
vectors : map (λ op. vector_row op (v3 (quarters (pos 12)) (pos 0) (quarters (negsuc 15))) (v3 (quarters (pos 4)) (quarters (pos 8)) (pos 0)) (quarters (pos 2)))
    (v.Add ∷ v.Subtract ∷ v.Multiply ∷ v.Divide ∷ v.Minimum ∷ v.Maximum ∷ v.Absolute ∷ v.Cross ∷ v.Scale ∷ v.Dot ∷ v.Length ∷ [])
    ≡ (vector (v3 (quarters (pos 16)) (quarters (pos 8)) (quarters (negsuc 15)))
    ∷ vector (v3 (quarters (pos 8)) (quarters (negsuc 7)) (quarters (negsuc 15)))
    ∷ vector (v3 (quarters (pos 12)) (pos 0) (pos 0))
    ∷ vector (v3 (quarters (pos 12)) (pos 0) (pos 0))
    ∷ vector (v3 (quarters (pos 4)) (pos 0) (quarters (negsuc 15)))
    ∷ vector (v3 (quarters (pos 12)) (quarters (pos 8)) (pos 0))
    ∷ vector (v3 (quarters (pos 12)) (pos 0) (quarters (pos 16)))
    ∷ vector (v3 (quarters (pos 32)) (quarters (negsuc 15)) (quarters (pos 24)))
    ∷ vector (v3 (quarters (pos 6)) (pos 0) (quarters (negsuc 7)))
    ∷ fixed (fx (quarters (pos 12)))
    ∷ fixed (fx (quarters (pos 20)))
    ∷ [])
unfolding vector_row exact_product exact_length root greatest
vectors = refl

-- 3 / 5 and -4 / 5 rounded down, the zero vector, and the distance from (3, 0, -4) to 0
lengths : (normalized (v3 (quarters (pos 12)) (pos 0) (quarters (negsuc 15))) ∷ normalized (v3 (pos 0) (pos 0) (pos 0)) ∷ [])
    ≡ (v3 (pos 2576980377) (pos 0) (negsuc 3435973836) ∷ v3 (pos 0) (pos 0) (pos 0) ∷ [])
unfolding exact_length root greatest
lengths = refl

distance : vector_row v.Distance (v3 (quarters (pos 12)) (pos 0) (quarters (negsuc 15))) (v3 (pos 0) (pos 0) (pos 0)) (pos 0) ≡ fixed (fx (quarters (pos 20)))
unfolding vector_row exact_length root greatest
distance = refl

truths : map (λ op. boolean_row op true false) (b.And ∷ b.Or ∷ b.Xor ∷ b.Nand ∷ b.Nor ∷ b.Not ∷ []) ≡ (false ∷ true ∷ true ∷ true ∷ false ∷ false ∷ [])
unfolding boolean_row
truths = refl

comparisons : map (λ op. compare_row op (negsuc 0) (pos 0)) (c.Less ∷ c.LessEqual ∷ c.Greater ∷ c.GreaterEqual ∷ c.Equal ∷ c.NotEqual ∷ []) ≡ (true ∷ true ∷ false ∷ false ∷ false ∷ true ∷ [])
unfolding compare_row
comparisons = refl

same_numbers : map (λ op. compare_row op (pos 1) (pos 1)) (c.Less ∷ c.LessEqual ∷ c.Greater ∷ c.GreaterEqual ∷ c.Equal ∷ c.NotEqual ∷ []) ≡ (false ∷ true ∷ false ∷ true ∷ true ∷ false ∷ [])
unfolding compare_row
same_numbers = refl

-- max goes before min; a range that is left runs on without clamp; a factor above 1 counts as 1
ranges : (clamp_row (quarters (pos 3)) (quarters (pos 8)) (quarters (pos 4)) ∷ map_range_row false (quarters (pos 8)) (pos 0) one one (quarters (pos 8)) ∷ map_range_row true (quarters (pos 8)) (pos 0) one one (quarters (pos 8)) ∷ map_range_row true one (pos 0) (pos 0) one (quarters (pos 8)) ∷ mix_row (quarters (pos 8)) (pos 0) one ∷ mix_row (quarters (pos 1)) one (quarters (pos 8)) ∷ [])
    ≡ map quarters (pos 4 ∷ pos 12 ∷ pos 8 ∷ pos 4 ∷ pos 4 ∷ pos 5 ∷ [])
unfolding clamp_row unit_part range_part between map_range_row mix_row exact_product
ranges = refl

-- of 2.5 and of -2.5; the greatest number rounds up out of range
roundings : (map (λ op. round_row op (quarters (pos 10))) (r.Round ∷ r.Floor ∷ r.Ceil ∷ r.Truncate ∷ []) ≡ (pos 3 ∷ pos 2 ∷ pos 3 ∷ pos 2 ∷ []))
    × (map (λ op. round_row op (quarters (negsuc 9))) (r.Round ∷ r.Floor ∷ r.Ceil ∷ r.Truncate ∷ []) ≡ (negsuc 1 ∷ negsuc 2 ∷ negsuc 1 ∷ negsuc 1 ∷ []))
    × (map (λ op. round_row op most) (r.Round ∷ r.Floor ∷ r.Ceil ∷ r.Truncate ∷ []) ≡ (pos (2 ^ 31 - 1) ∷ pos (2 ^ 31 - 1) ∷ pos (2 ^ 31 - 1) ∷ pos (2 ^ 31 - 1) ∷ []))
unfolding round_row
roundings = (refl, refl, refl)

-- at a hash whose high half is 3 / 4
randoms : (random_fixed one (quarters (pos 12)) (3 * 2 ^ 62) ≡ quarters (pos 10))
    × (random_int (pos 1) (pos 4) (3 * 2 ^ 62) ≡ pos 4)
    × (random_int (pos 1) (pos 1) (3 * 2 ^ 62) ≡ pos 1)
    × (random_int (pos 4) (pos 1) (3 * 2 ^ 62) ≡ pos 4)
    × (random_int (negsuc (2 ^ 31 - 1)) (pos (2 ^ 31 - 1)) (2 ^ 64 - 1) ≡ pos (2 ^ 31 - 1))
    × (random_truth (quarters (pos 3)) (3 * 2 ^ 62) ≡ false)
    × (random_truth one (3 * 2 ^ 62) ≡ true)
unfolding random_fixed between random_int random_truth exact_product
randoms = (refl, refl, refl, refl, refl, refl, refl)

parts : (row CombineXyz (fixed (fx (pos 1)) ∷ fixed (fx (pos 2)) ∷ fixed (fx (pos 3)) ∷ []) ∷ row (SeparateXyz Z) (vector (v3 (pos 1) (pos 2) (pos 3)) ∷ []) ∷ []) ≡ (vector (v3 (pos 1) (pos 2) (pos 3)) ∷ fixed (fx (pos 3)) ∷ [])
unfolding row
parts = refl

choices : map (λ by. row (Select k.Int 2) (by ∷ int (pos 7) ∷ int (pos 8) ∷ [])) (truth false ∷ truth true ∷ int (pos 1) ∷ int (pos 2) ∷ int (negsuc 0) ∷ [])
    ≡ (int (pos 7) ∷ int (pos 8) ∷ int (pos 8) ∷ int (pos 0) ∷ int (pos 0) ∷ [])
unfolding row chosen
choices = refl
