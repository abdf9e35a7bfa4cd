-- Fields of the kinds that a node takes make fields of the kinds that it gives.
use Rattle.std.proofs.Common.{◌≡◌, ℕ, zero, suc, List, [], ◌∷◌, length, take, Option, Some, None, refl, ap, ◌∙◌}
use Rattle.gn_value.specs.Values.{zero_of}
use Rattle.gn_value.specs.Operations.{math_takes, integer_math_takes, vector_math_takes, vector_math_gives, boolean_math_takes, random_takes, Takes, gives}
use Rattle.gn_value.specs.declared.value.ValueKind.{ValueKind}
use Rattle.gn_value.specs.declared.value.ValueKind.TheVariants.{Truth, Int, Fixed, Vector}
use Rattle.gn_value.specs.declared.op.Op.TheVariants.{VectorMath}
use Rattle.gn_value.specs.declared.op.MathOp.{MathOp}
use Rattle.gn_value.specs.declared.op.MathOp.TheVariants as m
use Rattle.gn_value.specs.declared.op.IntegerMathOp.{IntegerMathOp}
use Rattle.gn_value.specs.declared.op.IntegerMathOp.TheVariants as i
use Rattle.gn_value.specs.declared.op.VectorMathOp.{VectorMathOp}
use Rattle.gn_value.specs.declared.op.VectorMathOp.TheVariants as v
use Rattle.gn_value.specs.declared.op.BooleanMathOp.{BooleanMathOp}
use Rattle.gn_value.specs.declared.op.BooleanMathOp.TheVariants as b
use Rattle.gn_plain.specs.Fields.{Expr, constant, Sources, kind_of_field}
use Rattle.gn_node_kind.specs.Kinds.{NodeKind, float, integer, boolean, vector, position, index, id, normal, named_attribute, edge_vertices, vertex_neighbors, math, integer_math, vector_math, boolean_math, compare, clamp, map_range, mix, float_to_integer, combine_xyz, separate_xyz, random_value, accumulate_field, evaluate_at_index, evaluate_on_domain}
use Rattle.gn_field.specs.Steps.{exprs_of}
use Rattle.gn_field.specs.Kinds.{kinds_in, HasKinds, HaveKinds}
use Rattle.gn_field_rows.specs.Arguments.{operated, vector_arguments, vector_math_outputs, random_arguments}
use Rattle.gn_field_rows.specs.Outputs.{field_outputs}
use Rattle.gn_field_rows.specs.Kinds.{input_kinds, output_kinds, AreOfKinds}

-- ---- an operation takes the first of two values, or both

math_first : (op : MathOp) → take (length (math_takes op)) (Fixed ∷ Fixed ∷ []) ≡ math_takes op
math_first m.Add = refl
math_first m.Subtract = refl
math_first m.Multiply = refl
math_first m.Divide = refl
math_first m.Modulo = refl
math_first m.Minimum = refl
math_first m.Maximum = refl
math_first m.Absolute = refl
math_first m.Sign = refl
math_first m.Floor = refl
math_first m.Ceil = refl
math_first m.Fraction = refl
math_first m.Sqrt = refl
math_first m.LessThan = refl
math_first m.GreaterThan = refl

integer_first : (op : IntegerMathOp) → take (length (integer_math_takes op)) (Int ∷ Int ∷ []) ≡ integer_math_takes op
integer_first i.Add = refl
integer_first i.Subtract = refl
integer_first i.Multiply = refl
integer_first i.Divide = refl
integer_first i.Modulo = refl
integer_first i.Minimum = refl
integer_first i.Maximum = refl
integer_first i.Absolute = refl
integer_first i.Sign = refl
integer_first i.Negate = refl

boolean_first : (op : BooleanMathOp) → take (length (boolean_math_takes op)) (Truth ∷ Truth ∷ []) ≡ boolean_math_takes op
boolean_first b.And = refl
boolean_first b.Or = refl
boolean_first b.Xor = refl
boolean_first b.Nand = refl
boolean_first b.Nor = refl
boolean_first b.Not = refl

module _ {S : Type 0} (sources : Sources S) (taken : S → ValueKind) where
  abbrev Fit : List ValueKind → List (Expr S) → Type 0
  Fit kinds es = AreOfKinds sources taken kinds es

  first_kinds : (n : ℕ) (es : List (Expr S)) → kinds_in sources (exprs_of (take n es)) ≡ take n (kinds_in sources (exprs_of es))
  first_kinds zero es = refl
  first_kinds (suc n) [] = refl
  first_kinds (suc n) (e ∷ es) = ap (λ ks. kind_of_field sources e ∷ ks) (first_kinds n es)

  first_have : (n : ℕ) (es : List (Expr S)) → HaveKinds sources taken (exprs_of es) → HaveKinds sources taken (exprs_of (take n es))
  first_have zero es h = tt
  first_have (suc n) [] h = tt
  first_have (suc n) (e ∷ es) (h, hs) = (h, first_have n es hs)

  -- the first of some fields have the first of their kinds
  first_fit : (n : ℕ) (kinds : List ValueKind) (es : List (Expr S)) → Fit kinds es → Fit (take n kinds) (take n es)
  first_fit n kinds es (shape, have) = (first_kinds n es ∙ ap (λ ks. take n ks) shape, first_have n es have)

  -- ---- vectors

  abbrev outer : List ValueKind → List ValueKind
  outer (x ∷ y ∷ z ∷ rest) = x ∷ z ∷ []
  outer kinds = []

  vectors_fit : (op : VectorMathOp) (x y z : Expr S) → Fit (Vector ∷ Vector ∷ Fixed ∷ []) (x ∷ y ∷ z ∷ []) → Fit (vector_math_takes op) (vector_arguments op (x ∷ y ∷ z ∷ []))
  vectors_fit v.Scale x y z (shape, (hx, (hy, (hz, end)))) = (ap outer shape, (hx, (hz, tt)))
  vectors_fit v.Add x y z fit = first_fit 2 _ (x ∷ y ∷ z ∷ []) fit
  vectors_fit v.Subtract x y z fit = first_fit 2 _ (x ∷ y ∷ z ∷ []) fit
  vectors_fit v.Multiply x y z fit = first_fit 2 _ (x ∷ y ∷ z ∷ []) fit
  vectors_fit v.Divide x y z fit = first_fit 2 _ (x ∷ y ∷ z ∷ []) fit
  vectors_fit v.Minimum x y z fit = first_fit 2 _ (x ∷ y ∷ z ∷ []) fit
  vectors_fit v.Maximum x y z fit = first_fit 2 _ (x ∷ y ∷ z ∷ []) fit
  vectors_fit v.Cross x y z fit = first_fit 2 _ (x ∷ y ∷ z ∷ []) fit
  vectors_fit v.Dot x y z fit = first_fit 2 _ (x ∷ y ∷ z ∷ []) fit
  vectors_fit v.Distance x y z fit = first_fit 2 _ (x ∷ y ∷ z ∷ []) fit
  vectors_fit v.Absolute x y z fit = first_fit 1 _ (x ∷ y ∷ z ∷ []) fit
  vectors_fit v.Normalize x y z fit = first_fit 1 _ (x ∷ y ∷ z ∷ []) fit
  vectors_fit v.Length x y z fit = first_fit 1 _ (x ∷ y ∷ z ∷ []) fit

  vector_given : (e : Expr S) → kind_of_field sources e ≡ Vector → HasKinds sources taken e → Fit (Vector ∷ Fixed ∷ []) (e ∷ constant (zero_of Fixed) ∷ [])
  vector_given e kind have = (ap (λ k. k ∷ Fixed ∷ []) kind, (have, (tt, tt)))

  number_given : (e : Expr S) → kind_of_field sources e ≡ Fixed → HasKinds sources taken e → Fit (Vector ∷ Fixed ∷ []) (constant (zero_of Vector) ∷ e ∷ [])
  number_given e kind have = (ap (λ k. Vector ∷ k ∷ []) kind, (tt, (have, tt)))

  vector_or_number_fit : (op : VectorMathOp) (e : Expr S) → kind_of_field sources e ≡ vector_math_gives op → HasKinds sources taken e → Fit (Vector ∷ Fixed ∷ []) (vector_math_outputs op e)
  unfolding vector_math_gives
  vector_or_number_fit v.Dot e kind have = number_given e kind have
  vector_or_number_fit v.Length e kind have = number_given e kind have
  vector_or_number_fit v.Distance e kind have = number_given e kind have
  vector_or_number_fit v.Add e kind have = vector_given e kind have
  vector_or_number_fit v.Subtract e kind have = vector_given e kind have
  vector_or_number_fit v.Multiply e kind have = vector_given e kind have
  vector_or_number_fit v.Divide e kind have = vector_given e kind have
  vector_or_number_fit v.Minimum e kind have = vector_given e kind have
  vector_or_number_fit v.Maximum e kind have = vector_given e kind have
  vector_or_number_fit v.Absolute e kind have = vector_given e kind have
  vector_or_number_fit v.Cross e kind have = vector_given e kind have
  vector_or_number_fit v.Scale e kind have = vector_given e kind have
  vector_or_number_fit v.Normalize e kind have = vector_given e kind have

  vector_fits : (op : VectorMathOp) (es : List (Expr S)) → kinds_in sources (exprs_of es) ≡ Vector ∷ Vector ∷ Fixed ∷ [] → HaveKinds sources taken (exprs_of es) → Fit (Vector ∷ Fixed ∷ []) (vector_math_outputs op (operated (VectorMath op) (vector_arguments op es)))
  unfolding gives Takes
  vector_fits op (x ∷ y ∷ z ∷ []) shape have = vector_or_number_fit op _ refl (vectors_fit op x y z (shape, have))
  vector_fits op [] shape have = cc
  vector_fits op (x ∷ []) shape have = cc
  vector_fits op (x ∷ y ∷ []) shape have = cc
  vector_fits op (x ∷ y ∷ z ∷ w ∷ es) shape have = cc

  -- ---- random values

  abbrev without_third : List ValueKind → List ValueKind
  without_third (x ∷ y ∷ z ∷ rest) = x ∷ y ∷ rest
  without_third kinds = []

  abbrev behind_two : List ValueKind → List ValueKind
  behind_two (x ∷ y ∷ rest) = rest
  behind_two kinds = []

  random_fits : (kind : ValueKind) (es : List (Expr S)) → kinds_in sources (exprs_of es) ≡ kind ∷ kind ∷ Fixed ∷ Int ∷ Int ∷ [] → HaveKinds sources taken (exprs_of es) → Fit (random_takes kind) (random_arguments kind es)
  random_fits Truth (p ∷ q ∷ r ∷ s ∷ t ∷ []) shape (hp, (hq, have)) = (ap behind_two shape, have)
  random_fits Int (p ∷ q ∷ r ∷ s ∷ t ∷ []) shape (hp, (hq, (hr, have))) = (ap without_third shape, (hp, (hq, have)))
  random_fits Fixed (p ∷ q ∷ r ∷ s ∷ t ∷ []) shape (hp, (hq, (hr, have))) = (ap without_third shape, (hp, (hq, have)))
  random_fits Vector (p ∷ q ∷ r ∷ s ∷ t ∷ []) shape (hp, (hq, (hr, have))) = (ap without_third shape, (hp, (hq, have)))
  random_fits kind [] shape have = cc
  random_fits kind (p ∷ []) shape have = cc
  random_fits kind (p ∷ q ∷ []) shape have = cc
  random_fits kind (p ∷ q ∷ r ∷ []) shape have = cc
  random_fits kind (p ∷ q ∷ r ∷ s ∷ []) shape have = cc
  random_fits kind (p ∷ q ∷ r ∷ s ∷ t ∷ u ∷ es) shape have = cc

  -- ---- all kinds

  -- the outputs, where a node gives fields alone, have these kinds
  abbrev AreGiven : List ValueKind → Option (List (Expr S)) → Type 0
  AreGiven kinds None = Unit {0}
  AreGiven kinds (Some es) = Fit kinds es

  pub outputs_fit : (kind : NodeKind) (es : List (Expr S)) → AreOfKinds sources taken (input_kinds kind) es → AreGiven (output_kinds kind) (field_outputs kind es)
  unfolding gives Takes
  outputs_fit (float x) es fit = (refl, (tt, tt))
  outputs_fit (integer n) es fit = (refl, (tt, tt))
  outputs_fit (boolean b) es fit = (refl, (tt, tt))
  outputs_fit (vector v) es fit = (refl, (tt, tt))
  outputs_fit position es fit = (refl, (tt, tt))
  outputs_fit index es fit = (refl, (tt, tt))
  outputs_fit id es fit = (refl, (tt, tt))
  outputs_fit normal es fit = (refl, (tt, tt))
  outputs_fit (named_attribute name kind) es fit = (refl, (tt, (tt, tt)))
  outputs_fit edge_vertices es fit = (refl, (tt, (tt, (tt, (tt, tt)))))
  outputs_fit vertex_neighbors es fit = (refl, (tt, (tt, tt)))
  outputs_fit (math op) es fit = let (shape, have) = first_fit (length (math_takes op)) _ es fit in (refl, ((shape ∙ math_first op, have), tt))
  outputs_fit (integer_math op) es fit = let (shape, have) = first_fit (length (integer_math_takes op)) _ es fit in (refl, ((shape ∙ integer_first op, have), tt))
  outputs_fit (vector_math op) es (shape, have) = vector_fits op es shape have
  outputs_fit (boolean_math op) es fit = let (shape, have) = first_fit (length (boolean_math_takes op)) _ es fit in (refl, ((shape ∙ boolean_first op, have), tt))
  outputs_fit (compare kind op) es fit = (refl, (fit, tt))
  outputs_fit clamp es fit = (refl, (fit, tt))
  outputs_fit (map_range inside) es fit = (refl, (fit, tt))
  outputs_fit (mix kind) es fit = (refl, (fit, tt))
  outputs_fit (float_to_integer op) es fit = (refl, (fit, tt))
  outputs_fit combine_xyz es fit = (refl, (fit, tt))
  outputs_fit separate_xyz es fit = (refl, (fit, (fit, (fit, tt))))
  outputs_fit (random_value kind) es (shape, have) = (refl, (random_fits kind es shape have, tt))
  outputs_fit (accumulate_field kind place) es fit = (refl, (fit, (fit, (fit, tt))))
  outputs_fit (evaluate_at_index kind place) es fit = (refl, (fit, tt))
  outputs_fit (evaluate_on_domain kind place) es fit = (refl, (fit, tt))
  outputs_fit _ es fit = tt
