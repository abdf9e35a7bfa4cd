-- The tests of equality on values, operations, inputs and steps answer exactly where two are the same.
use Rattle.std.proofs.Common.{◌≡◌, inl, inr, ℕ, Bool, true, false, ◌&&◌, ◌==◌, Option, Some, None, refl, ap, subst}
use Rattle.std.specs.Prelude.{string_bytes, bytes_eq}
use Rattle.std.specs.Bool.{Decides}
use Rattle.std.proofs.Math.Bool.{beq}
use Rattle.std.specs.Ordering.{int_eq}
use Rattle.std.proofs.lemmas.Bool.Decides.{Decides-eqb, Decides-int_eq}
use Rattle.std.proofs.lemmas.Slice.Eq.{slice_eq-Decides, bytes_eq-Decides}
use Rattle.gn_value.specs.declared.fixed.Fx.{Fx}
use Rattle.gn_value.specs.declared.value.Value.{Value}
use Rattle.gn_value.specs.declared.value.Value.TheVariants as v
use Rattle.gn_value.specs.declared.value.Place.{Place}
use Rattle.gn_value.specs.declared.value.Place.TheVariants as p
use Rattle.gn_value.specs.declared.value.ValueKind.{ValueKind}
use Rattle.gn_value.specs.declared.value.ValueKind.TheVariants as k
use Rattle.gn_value.specs.declared.op.Op.{Op}
use Rattle.gn_value.specs.declared.op.Op.TheVariants.{Math, IntegerMath, VectorMath, BooleanMath, Compare, Clamp, MapRange, Mix, FloatToInteger, CombineXyz, SeparateXyz, RandomValue, Convert, Select}
use Rattle.gn_value.specs.declared.op.MathOp.{MathOp}
use Rattle.gn_value.specs.declared.op.MathOp.TheVariants as m
use Rattle.gn_value.specs.contracts.op.MathOpPartialEq.TheImpl as math_equality
use Rattle.gn_value.specs.declared.op.IntegerMathOp.{IntegerMathOp}
use Rattle.gn_value.specs.declared.op.IntegerMathOp.TheVariants as i
use Rattle.gn_value.specs.contracts.op.IntegerMathOpPartialEq.TheImpl as integer_math_equality
use Rattle.gn_value.specs.declared.op.VectorMathOp.{VectorMathOp}
use Rattle.gn_value.specs.declared.op.VectorMathOp.TheVariants as w
use Rattle.gn_value.specs.contracts.op.VectorMathOpPartialEq.TheImpl as vector_math_equality
use Rattle.gn_value.specs.declared.op.BooleanMathOp.{BooleanMathOp}
use Rattle.gn_value.specs.declared.op.BooleanMathOp.TheVariants as b
use Rattle.gn_value.specs.contracts.op.BooleanMathOpPartialEq.TheImpl as boolean_math_equality
use Rattle.gn_value.specs.declared.op.CompareOp.{CompareOp}
use Rattle.gn_value.specs.declared.op.CompareOp.TheVariants as c
use Rattle.gn_value.specs.contracts.op.CompareOpPartialEq.TheImpl as compare_equality
use Rattle.gn_value.specs.declared.op.CompareKind.{CompareKind}
use Rattle.gn_value.specs.declared.op.CompareKind.TheVariants as ck
use Rattle.gn_value.specs.contracts.op.CompareKindPartialEq.TheImpl as compare_kind_equality
use Rattle.gn_value.specs.declared.op.MixKind.{MixKind}
use Rattle.gn_value.specs.declared.op.MixKind.TheVariants as mk
use Rattle.gn_value.specs.contracts.op.MixKindPartialEq.TheImpl as mix_equality
use Rattle.gn_value.specs.declared.op.RoundMode.{RoundMode}
use Rattle.gn_value.specs.declared.op.RoundMode.TheVariants as r
use Rattle.gn_value.specs.contracts.op.RoundModePartialEq.TheImpl as round_equality
use Rattle.gn_value.specs.declared.op.Axis.{Axis}
use Rattle.gn_value.specs.declared.op.Axis.TheVariants as x
use Rattle.gn_value.specs.contracts.op.AxisPartialEq.TheImpl as axis_equality
use Rattle.gn_value.specs.contracts.op.OpEq.TheImpl.Laws as op_laws
use Rattle.gn_value.specs.contracts.value.ValueEq.TheImpl.Laws as value_laws
use Rattle.gn_value.specs.contracts.value.ValueKindEq.TheImpl.Laws as kind_laws
use Rattle.gn_value.specs.contracts.value.PlaceEq.TheImpl.Laws as place_laws
use Rattle.gn_lazy.specs.declared.path.PathStep.{PathStep}
use Rattle.gn_lazy.specs.declared.path.Path.{Path as KeptPath}
use Rattle.gn_lazy.specs.contracts.path.PathPartialEq.TheImpl as path_equality
use Rattle.gn_lazy.specs.contracts.path.PathStepPartialEq.TheImpl as path_step_equality
use Rattle.gn_lazy.specs.contracts.path.PathStepEq.TheImpl.Laws as path_step_laws
use Rattle.gn_node_set.specs.Paths.{Path, same_path}
use Rattle.gn_node_set.proofs.Paths.{path_tells}
use Rattle.gn_plain.specs.Equality.{same_value, same_kind, same_place, same_op}
use Rattle.gn_plain.specs.Columns.{named, anonymous}
use Rattle.gn_plain.specs.Contexts as plain
use Rattle.gn_field.specs.declared.input.Input.{Input}
use Rattle.gn_field.specs.declared.input.Input.TheVariants as read
use Rattle.gn_field.specs.contracts.input.InputPartialEq.TheImpl as input_equality
use Rattle.gn_field.specs.declared.input.Part.{Part}
use Rattle.gn_field.specs.declared.input.Part.TheVariants as part
use Rattle.gn_field.specs.contracts.input.PartPartialEq.TheImpl as part_equality
use Rattle.gn_field.specs.declared.input.Step.{Step}
use Rattle.gn_field.specs.declared.input.Step.TheVariants as step
use Rattle.gn_field.specs.contracts.input.StepPartialEq.TheImpl as step_equality
use Rattle.gn_field.specs.contracts.input.StepEq.TheImpl.Laws as step_laws
use Rattle.gn_field.specs.Steps.{plain_input, plain_part, step_of}

-- a test answers exactly where two are the same, if it holds of each and itself
decides : {A : Type 0} (test : A → A → Bool) → ((a b : A) → test a b ≡ true → a ≡ b) → ((a : A) → test a a ≡ true) → (a b : A) → Decides (test a b) (a ≡ b)
decides test is self a b = (is a b, λ e. subst (λ c. test a c ≡ true) e (self a))

pub both : (a b : Bool) → (a && b) ≡ true → (a ≡ true) × (b ≡ true)
both true b e = (refl, e)
both false b e = cc

pub both_true : (a b : Bool) → a ≡ true → b ≡ true → (a && b) ≡ true
both_true true b p q = q
both_true false b p q = cc

truth_is : (a b : Bool) → beq a b ≡ true → a ≡ b
truth_is true true e = refl
truth_is false false e = refl
truth_is _ _ e = cc

-- ---- values

kind_is : (a b : ValueKind) → same_kind a b ≡ true → a ≡ b
kind_is k.Truth k.Truth e = refl
kind_is k.Int k.Int e = refl
kind_is k.Fixed k.Fixed e = refl
kind_is k.Vector k.Vector e = refl
kind_is _ _ e = cc

place_is : (a b : Place) → same_place a b ≡ true → a ≡ b
place_is p.Point p.Point e = refl
place_is p.Edge p.Edge e = refl
place_is p.Face p.Face e = refl
place_is p.Corner p.Corner e = refl
place_is p.Cloud p.Cloud e = refl
place_is p.Instance p.Instance e = refl
place_is _ _ e = cc

pub kind_decides : (a b : ValueKind) → Decides (same_kind a b) (a ≡ b)
kind_decides = decides same_kind kind_is kind_laws.laws-law.refl

pub place_decides : (a b : Place) → Decides (same_place a b) (a ≡ b)
place_decides = decides same_place place_is place_laws.laws-law.refl

fx_is : (a b : Fx) → int_eq a.0 b.0 ≡ true → a ≡ b
fx_is a b e = ap (λ n. record { 0 = n }) ((Decides-int_eq a.0 b.0).0 e)

value_is : (a b : Value) → same_value a b ≡ true → a ≡ b
value_is (v.Truth a) (v.Truth b) e = ap v.Truth (truth_is a b e)
value_is (v.Int a) (v.Int b) e = ap v.Int ((Decides-int_eq a b).0 e)
value_is (v.Fixed a) (v.Fixed b) e = ap v.Fixed (fx_is a b e)
value_is (v.Vector a) (v.Vector b) e =
    let x = both (int_eq a.x.0 b.x.0) (int_eq a.y.0 b.y.0 && int_eq a.z.0 b.z.0) e in
    let y = both (int_eq a.y.0 b.y.0) (int_eq a.z.0 b.z.0) x.1 in
    let p = fx_is a.x b.x x.0 in
    let q = fx_is a.y b.y y.0 in
    let r = fx_is a.z b.z y.1 in
    λ i. v.Vector (record { x = p i; y = q i; z = r i })
value_is _ _ e = cc

pub value_decides : (a b : Value) → Decides (same_value a b) (a ≡ b)
value_decides = decides same_value value_is value_laws.laws-law.refl

-- ---- operations

math_is : (a b : MathOp) → math_equality.ghosts.eq a b ≡ true → a ≡ b
math_is m.Add m.Add e = refl
math_is m.Subtract m.Subtract e = refl
math_is m.Multiply m.Multiply e = refl
math_is m.Divide m.Divide e = refl
math_is m.Modulo m.Modulo e = refl
math_is m.Minimum m.Minimum e = refl
math_is m.Maximum m.Maximum e = refl
math_is m.Absolute m.Absolute e = refl
math_is m.Sign m.Sign e = refl
math_is m.Floor m.Floor e = refl
math_is m.Ceil m.Ceil e = refl
math_is m.Fraction m.Fraction e = refl
math_is m.Sqrt m.Sqrt e = refl
math_is m.LessThan m.LessThan e = refl
math_is m.GreaterThan m.GreaterThan e = refl
math_is _ _ e = cc

integer_math_is : (a b : IntegerMathOp) → integer_math_equality.ghosts.eq a b ≡ true → a ≡ b
integer_math_is i.Add i.Add e = refl
integer_math_is i.Subtract i.Subtract e = refl
integer_math_is i.Multiply i.Multiply e = refl
integer_math_is i.Divide i.Divide e = refl
integer_math_is i.Modulo i.Modulo e = refl
integer_math_is i.Minimum i.Minimum e = refl
integer_math_is i.Maximum i.Maximum e = refl
integer_math_is i.Absolute i.Absolute e = refl
integer_math_is i.Sign i.Sign e = refl
integer_math_is i.Negate i.Negate e = refl
integer_math_is _ _ e = cc

vector_math_is : (a b : VectorMathOp) → vector_math_equality.ghosts.eq a b ≡ true → a ≡ b
vector_math_is w.Add w.Add e = refl
vector_math_is w.Subtract w.Subtract e = refl
vector_math_is w.Multiply w.Multiply e = refl
vector_math_is w.Divide w.Divide e = refl
vector_math_is w.Minimum w.Minimum e = refl
vector_math_is w.Maximum w.Maximum e = refl
vector_math_is w.Absolute w.Absolute e = refl
vector_math_is w.Cross w.Cross e = refl
vector_math_is w.Scale w.Scale e = refl
vector_math_is w.Normalize w.Normalize e = refl
vector_math_is w.Dot w.Dot e = refl
vector_math_is w.Length w.Length e = refl
vector_math_is w.Distance w.Distance e = refl
vector_math_is _ _ e = cc

boolean_math_is : (a b : BooleanMathOp) → boolean_math_equality.ghosts.eq a b ≡ true → a ≡ b
boolean_math_is b.And b.And e = refl
boolean_math_is b.Or b.Or e = refl
boolean_math_is b.Xor b.Xor e = refl
boolean_math_is b.Nand b.Nand e = refl
boolean_math_is b.Nor b.Nor e = refl
boolean_math_is b.Not b.Not e = refl
boolean_math_is _ _ e = cc

compare_is : (a b : CompareOp) → compare_equality.ghosts.eq a b ≡ true → a ≡ b
compare_is c.Less c.Less e = refl
compare_is c.LessEqual c.LessEqual e = refl
compare_is c.Greater c.Greater e = refl
compare_is c.GreaterEqual c.GreaterEqual e = refl
compare_is c.Equal c.Equal e = refl
compare_is c.NotEqual c.NotEqual e = refl
compare_is _ _ e = cc

compare_kind_is : (a b : CompareKind) → compare_kind_equality.ghosts.eq a b ≡ true → a ≡ b
compare_kind_is ck.Int ck.Int e = refl
compare_kind_is ck.Fixed ck.Fixed e = refl
compare_kind_is _ _ e = cc

mix_is : (a b : MixKind) → mix_equality.ghosts.eq a b ≡ true → a ≡ b
mix_is mk.Fixed mk.Fixed e = refl
mix_is mk.Vector mk.Vector e = refl
mix_is _ _ e = cc

round_is : (a b : RoundMode) → round_equality.ghosts.eq a b ≡ true → a ≡ b
round_is r.Round r.Round e = refl
round_is r.Floor r.Floor e = refl
round_is r.Ceil r.Ceil e = refl
round_is r.Truncate r.Truncate e = refl
round_is _ _ e = cc

axis_is : (a b : Axis) → axis_equality.ghosts.eq a b ≡ true → a ≡ b
axis_is x.X x.X e = refl
axis_is x.Y x.Y e = refl
axis_is x.Z x.Z e = refl
axis_is _ _ e = cc

op_is : (a b : Op) → same_op a b ≡ true → a ≡ b
op_is (Math a) (Math b) e = ap Math (math_is a b e)
op_is (IntegerMath a) (IntegerMath b) e = ap IntegerMath (integer_math_is a b e)
op_is (VectorMath a) (VectorMath b) e = ap VectorMath (vector_math_is a b e)
op_is (BooleanMath a) (BooleanMath b) e = ap BooleanMath (boolean_math_is a b e)
op_is (Compare a c) (Compare b d) e =
    let t = both (compare_kind_equality.ghosts.eq a b) (compare_equality.ghosts.eq c d) e in
    let p = compare_kind_is a b t.0 in
    let q = compare_is c d t.1 in
    λ i. Compare (p i) (q i)
op_is Clamp Clamp e = refl
op_is (MapRange a) (MapRange b) e = ap MapRange (truth_is a b e)
op_is (Mix a) (Mix b) e = ap Mix (mix_is a b e)
op_is (FloatToInteger a) (FloatToInteger b) e = ap FloatToInteger (round_is a b e)
op_is CombineXyz CombineXyz e = refl
op_is (SeparateXyz a) (SeparateXyz b) e = ap SeparateXyz (axis_is a b e)
op_is (RandomValue a) (RandomValue b) e = ap RandomValue (kind_is a b e)
op_is (Convert a) (Convert b) e = ap Convert (kind_is a b e)
op_is (Select a m) (Select b n) e =
    let t = both (same_kind a b) (m == n) e in
    let p = kind_is a b t.0 in
    let q = (Decides-eqb m n).0 t.1 in
    λ i. Select (p i) (q i)
op_is _ _ e = cc

pub op_decides : (a b : Op) → Decides (same_op a b) (a ≡ b)
op_decides = decides same_op op_is op_laws.laws-law.refl

-- ---- steps that read elsewhere

part_is : (a b : Part) → part_equality.ghosts.eq a b ≡ true → a ≡ b
part_is part.Leading part.Leading e = refl
part_is part.Trailing part.Trailing e = refl
part_is part.Total part.Total e = refl
part_is _ _ e = cc

kept_step_is : (a b : Step) → step_equality.ghosts.eq a b ≡ true → a ≡ b
kept_step_is (step.Accumulate a c x) (step.Accumulate b d y) e =
    let t = both (same_kind a b) (same_place c d && part_equality.ghosts.eq x y) e in
    let u = both (same_place c d) (part_equality.ghosts.eq x y) t.1 in
    let p = kind_is a b t.0 in
    let q = place_is c d u.0 in
    let r = part_is x y u.1 in
    λ i. step.Accumulate (p i) (q i) (r i)
kept_step_is (step.AtIndex a c) (step.AtIndex b d) e =
    let t = both (same_kind a b) (same_place c d) e in
    let p = kind_is a b t.0 in
    let q = place_is c d t.1 in
    λ i. step.AtIndex (p i) (q i)
kept_step_is (step.OnDomain a c) (step.OnDomain b d) e =
    let t = both (same_kind a b) (same_place c d) e in
    let p = kind_is a b t.0 in
    let q = place_is c d t.1 in
    λ i. step.OnDomain (p i) (q i)
kept_step_is _ _ e = cc

one_part : (a b : Part) → plain_part a ≡ plain_part b → a ≡ b
one_part part.Leading part.Leading e = refl
one_part part.Trailing part.Trailing e = refl
one_part part.Total part.Total e = refl
one_part _ _ e = cc

one_step : (a b : Step) → step_of a ≡ step_of b → a ≡ b
one_step (step.Accumulate a c x) (step.Accumulate b d y) e =
    let p : a ≡ b = cc in
    let q : c ≡ d = cc in
    let f : plain_part x ≡ plain_part y = cc in
    let r = one_part x y f in
    cc
one_step (step.AtIndex a c) (step.AtIndex b d) e = cc
one_step (step.OnDomain a c) (step.OnDomain b d) e = cc
one_step _ _ e = cc

pub kept_step_decides : (a b : Step) → Decides (step_equality.ghosts.eq a b) (step_of a ≡ step_of b)
kept_step_decides a b = (λ e. ap step_of (kept_step_is a b e), λ e. subst (λ c. step_equality.ghosts.eq a c ≡ true) (one_step a b e) (step_laws.laws-law.refl a))

-- ---- paths, names and inputs

path_step_is : (a b : PathStep) → path_step_equality.ghosts.eq a b ≡ true → a ≡ b
path_step_is a b e = by_turns a.node b.node a.turn b.turn e
  where
    by_turns : (m n : ℕ) (s t : Option ℕ) → path_step_equality.ghosts.eq (record { node = m; turn = s }) (record { node = n; turn = t }) ≡ true → ◌≡◌ {A = PathStep} (record { node = m; turn = s }) (record { node = n; turn = t })
    by_turns m n None None e = let t = both (m == n) true e in let p = (Decides-eqb m n).0 t.0 in λ i. record { node = p i; turn = None }
    by_turns m n (Some j) (Some k) e =
        let t = both (m == n) (j == k) e in
        let p = (Decides-eqb m n).0 t.0 in
        let q = (Decides-eqb j k).0 t.1 in
        λ i. record { node = p i; turn = Some (q i) }
    by_turns m n _ _ e = let t = both (m == n) false e in cc

pub path_decides : (p q : KeptPath) → Decides (path_equality.ghosts.eq p q) (p.steps.items ≡ q.steps.items)
path_decides p q = slice_eq-Decides (decides path_step_equality.ghosts.eq path_step_is path_step_laws.laws-law.refl) p.steps.items q.steps.items (path_equality.ghosts.eq p q) refl

pub plain_path_decides : (p q : Path) → Decides (same_path p q) (p ≡ q)
plain_path_decides p q = elim (path_tells p q) [
  | inl t ↦ (λ _. t.1, λ _. t.0)
  | inr t ↦ (λ e. let f = t.0 in cc, λ e. absurd (t.1 e))
]

input_is : (a b : Input) → input_equality.ghosts.eq a b ≡ true → plain_input a ≡ plain_input b
input_is read.Position read.Position e = refl
input_is read.Index read.Index e = refl
input_is read.Id read.Id e = refl
input_is read.Normal read.Normal e = refl
input_is (read.Named x a) (read.Named y b) e =
    let t = both (bytes_eq (string_bytes x) (string_bytes y)) (same_kind a b) e in
    let p = (bytes_eq-Decides (string_bytes x) (string_bytes y)).0 t.0 in
    let q = kind_is a b t.1 in
    λ i. plain.column (named (p i)) (q i)
input_is (read.Exists x) (read.Exists y) e = ap plain.exists ((bytes_eq-Decides (string_bytes x) (string_bytes y)).0 e)
input_is (read.Anonymous p m a) (read.Anonymous q n b) e =
    let t = both (path_equality.ghosts.eq p q) ((m == n) && same_kind a b) e in
    let u = both (m == n) (same_kind a b) t.1 in
    let f = (path_decides p q).0 t.0 in
    let g = (Decides-eqb m n).0 u.0 in
    let h = kind_is a b u.1 in
    λ i. plain.column (anonymous (f i) (g i)) (h i)
input_is read.EdgeIndex1 read.EdgeIndex1 e = refl
input_is read.EdgeIndex2 read.EdgeIndex2 e = refl
input_is read.EdgePosition1 read.EdgePosition1 e = refl
input_is read.EdgePosition2 read.EdgePosition2 e = refl
input_is read.VertexEdges read.VertexEdges e = refl
input_is read.VertexFaces read.VertexFaces e = refl
input_is _ _ e = cc

is_input : (a b : Input) → plain_input a ≡ plain_input b → input_equality.ghosts.eq a b ≡ true
is_input read.Position read.Position e = refl
is_input read.Index read.Index e = refl
is_input read.Id read.Id e = refl
is_input read.Normal read.Normal e = refl
is_input (read.Named x a) (read.Named y b) e =
    let p : string_bytes x ≡ string_bytes y = cc in
    let q : a ≡ b = cc in
    both_true (bytes_eq (string_bytes x) (string_bytes y)) (same_kind a b) ((bytes_eq-Decides (string_bytes x) (string_bytes y)).1 p) (subst (λ c. same_kind a c ≡ true) q (kind_laws.laws-law.refl a))
is_input (read.Exists x) (read.Exists y) e = let p : string_bytes x ≡ string_bytes y = cc in (bytes_eq-Decides (string_bytes x) (string_bytes y)).1 p
is_input (read.Anonymous p m a) (read.Anonymous q n b) e =
    let f : p.steps.items ≡ q.steps.items = cc in
    let g : m ≡ n = cc in
    let h : a ≡ b = cc in
    both_true (path_equality.ghosts.eq p q) ((m == n) && same_kind a b) ((path_decides p q).1 f)
    (both_true (m == n) (same_kind a b) ((Decides-eqb m n).1 g) (subst (λ c. same_kind a c ≡ true) h (kind_laws.laws-law.refl a)))
is_input read.EdgeIndex1 read.EdgeIndex1 e = refl
is_input read.EdgeIndex2 read.EdgeIndex2 e = refl
is_input read.EdgePosition1 read.EdgePosition1 e = refl
is_input read.EdgePosition2 read.EdgePosition2 e = refl
is_input read.VertexEdges read.VertexEdges e = refl
is_input read.VertexFaces read.VertexFaces e = refl
is_input _ _ e = cc

pub input_decides : (a b : Input) → Decides (input_equality.ghosts.eq a b) (plain_input a ≡ plain_input b)
input_decides a b = (input_is a b, is_input a b)
