-- The operations and steps of a node take the arguments that they read of its inputs.
use Rattle.std.proofs.Common.{◌≡◌, ℕ, zero, suc, ◌≤◌, Bool, List, [], ◌∷◌, length, map, take, Option, refl, ap, sym, subst, ◌∙◌, arith}
use Rattle.gn_value.specs.Operations.{Takes, math_takes, integer_math_takes, boolean_math_takes, vector_math_takes, vector_math_gives, compare_takes, mix_takes}
use Rattle.gn_value.specs.declared.value.ValueKind.{ValueKind}
use Rattle.gn_value.specs.declared.value.ValueKind.TheVariants.{Truth, Fixed, Vector}
use Rattle.gn_value.specs.declared.op.Op.{Op}
use Rattle.gn_value.specs.declared.op.Op.TheVariants as o
use Rattle.gn_value.specs.declared.op.MathOp.{MathOp}
use Rattle.gn_value.specs.declared.op.IntegerMathOp.{IntegerMathOp}
use Rattle.gn_value.specs.declared.op.BooleanMathOp.{BooleanMathOp}
use Rattle.gn_value.specs.declared.op.VectorMathOp.{VectorMathOp}
use Rattle.gn_value.specs.declared.op.VectorMathOp.TheVariants as v
use Rattle.gn_node_set.specs.Paths.{Path}
use Rattle.gn_value.specs.declared.value.Place.{Place}
use Rattle.gn_value.specs.declared.op.CompareKind.{CompareKind}
use Rattle.gn_value.specs.declared.op.CompareKind.TheVariants as compared
use Rattle.gn_value.specs.declared.op.CompareOp.{CompareOp}
use Rattle.gn_value.specs.declared.op.MixKind.{MixKind}
use Rattle.gn_value.specs.declared.op.MixKind.TheVariants as mixed
use Rattle.gn_value.specs.declared.op.RoundMode.{RoundMode}
use Rattle.gn_value.specs.declared.op.Axis.{Axis}
use Rattle.gn_plain.specs.Fields.{Expr, Part, Step, accumulate, at_index, on_domain, Sources, kind_of_field}
use Rattle.gn_node_kind.specs.Kinds.{NodeKind, math, integer_math, vector_math, boolean_math, compare, clamp, map_range, mix, float_to_integer, combine_xyz, separate_xyz, random_value, accumulate_field, evaluate_at_index, evaluate_on_domain}
use Rattle.gn_field.specs.Steps.{exprs_of}
use Rattle.gn_field.specs.Kinds.{kinds_in, step_takes, HasKinds, HaveKinds}
use Rattle.gn_field.specs.Trees.{HaveSources}
use Rattle.gn_field.specs.Together.{AgreeOnSources}
use Rattle.gn_field.proofs.Facts.{kinds_are}
use Rattle.gn_field_rows.specs.Arguments.{operated, first, vector_arguments, vector_or_number, random_arguments}
use Rattle.gn_field_rows.specs.Kinds.{input_kinds, AreOfKinds}
use Rattle.gn_field_rows.proofs.Fitting.{outputs_fit}
use Rattle.gn_field_nodes.specs.Given.{CanApply, CanRead}

-- ---- sampled parts of arguments are sampled parts of the inputs

module _ {S : Type 0} (table : Path → Option S) where
  first_sourced : (n : ℕ) (es : List (Expr S)) → HaveSources table (exprs_of es) → HaveSources table (exprs_of (take n es))
  first_sourced zero es h = tt
  first_sourced (suc n) [] h = tt
  first_sourced (suc n) (e ∷ es) (h, hs) = (h, first_sourced n es hs)

  vectors_sourced : (op : VectorMathOp) (es : List (Expr S)) → HaveSources table (exprs_of es) → HaveSources table (exprs_of (vector_arguments op es))
  vectors_sourced v.Scale (x ∷ y ∷ z ∷ []) (hx, (hy, (hz, end))) = (hx, (hz, tt))
  vectors_sourced op es h = first_sourced (length (vector_math_takes op)) es h

  random_sourced : (kind : ValueKind) (es : List (Expr S)) → HaveSources table (exprs_of es) → HaveSources table (exprs_of (random_arguments kind es))
  random_sourced Truth (p ∷ q ∷ r ∷ s ∷ t ∷ []) (hp, (hq, h)) = h
  random_sourced kind (p ∷ q ∷ r ∷ s ∷ t ∷ []) (hp, (hq, (hr, h))) = (hp, (hq, h))
  random_sourced kind es h = tt

module _ {S : Type 0} (sources : Sources S) where
  -- ---- how many arguments there are

  count_kinds : (es : List (Expr S)) → length (kinds_in sources (exprs_of es)) ≡ length es
  count_kinds [] = refl
  count_kinds (e ∷ es) = ap suc (count_kinds es)

  pub few_of : (es : List (Expr S)) (kinds : List ValueKind) → kinds_in sources (exprs_of es) ≡ kinds → length es ≡ length kinds
  few_of es kinds shape = sym (count_kinds es) ∙ ap length shape

  few_first : (n : ℕ) (es : List (Expr S)) → length (take n es) ≤ length es
  few_first zero es = omega arith
  few_first (suc n) [] = omega arith
  few_first (suc n) (e ∷ es) = omega (arith, few_first n es)

  few_vectors : (op : VectorMathOp) (es : List (Expr S)) → length (vector_arguments op es) ≤ length es
  few_vectors v.Scale (x ∷ y ∷ z ∷ []) = omega arith
  few_vectors op es = few_first (length (vector_math_takes op)) es

  few_random : (kind : ValueKind) (es : List (Expr S)) → length (random_arguments kind es) ≤ length es
  few_random Truth (p ∷ q ∷ r ∷ s ∷ t ∷ []) = omega arith
  few_random kind (p ∷ q ∷ r ∷ s ∷ t ∷ []) = omega arith
  few_random kind es = omega arith

  -- ---- fields of the kinds that are taken

  can_apply : (op : Op) (es : List (Expr S)) (kinds : List ValueKind) → kinds_in sources (exprs_of es) ≡ kinds → length kinds ≤ 5 → Takes op kinds → AgreeOnSources es → CanApply sources op es
  can_apply op es kinds shape few takes agree = record { takes = subst (Takes op) (sym shape ∙ kinds_are sources es) takes; few = omega (arith, few, few_of es kinds shape); one_source = agree }

  can_read : (step : Step) (es : List (Expr S)) → kinds_in sources (exprs_of es) ≡ step_takes step → length (step_takes step) ≤ 2 → AgreeOnSources es → CanRead sources step es
  can_read step es shape few agree = record { takes = sym (kinds_are sources es) ∙ shape; few = omega (arith, few, few_of es (step_takes step) shape); one_source = agree }

few_compared : (kind : CompareKind) → length (compare_takes kind) ≤ 5
few_compared compared.Int = omega arith
few_compared compared.Fixed = omega arith

few_mixed : (kind : MixKind) → length (mix_takes kind) ≤ 5
few_mixed mixed.Fixed = omega arith
few_mixed mixed.Vector = omega arith

module _ {S : Type 0} (sources : Sources S) (taken : S → ValueKind) (es : List (Expr S)) (agree : AgreeOnSources es) where
  -- ---- operations that read some inputs

  -- the kinds of arguments are those of their list
  listed : (op : Op) (args : List (Expr S)) → Takes op (kinds_in sources (exprs_of args)) → Takes op (map (kind_of_field sources) args)
  listed op args takes = subst (Takes op) (kinds_are sources args) takes

  abbrev Fit : NodeKind → Type 0
  Fit kind = AreOfKinds sources taken (input_kinds kind) es

  few : (kinds : List ValueKind) → kinds_in sources (exprs_of es) ≡ kinds → length es ≡ length kinds
  few kinds shape = few_of sources es kinds shape

  pub can_math : (op : MathOp) → Fit (math op) → CanApply sources (o.Math op) (first (math_takes op) es)
  can_math op fit = record {
    takes = listed (o.Math op) (first (math_takes op) es) (outputs_fit sources taken (math op) es fit).1.0.0;
    few = omega (arith, few _ fit.0, few_first sources (length (math_takes op)) es);
    one_source = (agree.0, first_sourced agree.0 (length (math_takes op)) es agree.1);
  }

  pub can_integer_math : (op : IntegerMathOp) → Fit (integer_math op) → CanApply sources (o.IntegerMath op) (first (integer_math_takes op) es)
  can_integer_math op fit = record {
    takes = listed (o.IntegerMath op) (first (integer_math_takes op) es) (outputs_fit sources taken (integer_math op) es fit).1.0.0;
    few = omega (arith, few _ fit.0, few_first sources (length (integer_math_takes op)) es);
    one_source = (agree.0, first_sourced agree.0 (length (integer_math_takes op)) es agree.1);
  }

  pub can_boolean_math : (op : BooleanMathOp) → Fit (boolean_math op) → CanApply sources (o.BooleanMath op) (first (boolean_math_takes op) es)
  can_boolean_math op fit = record {
    takes = listed (o.BooleanMath op) (first (boolean_math_takes op) es) (outputs_fit sources taken (boolean_math op) es fit).1.0.0;
    few = omega (arith, few _ fit.0, few_first sources (length (boolean_math_takes op)) es);
    one_source = (agree.0, first_sourced agree.0 (length (boolean_math_takes op)) es agree.1);
  }

  -- the field beside a zero has the kinds that it takes
  beside_zero : (kind : ValueKind) (e : Expr S) → HaveKinds sources taken (exprs_of (vector_or_number kind e)) → HasKinds sources taken e
  beside_zero Vector e h = h.0
  beside_zero kind e h = h.1.0

  pub can_vector_math : (op : VectorMathOp) → Fit (vector_math op) → CanApply sources (o.VectorMath op) (vector_arguments op es)
  can_vector_math op fit = record {
    takes = listed (o.VectorMath op) (vector_arguments op es) (beside_zero (vector_math_gives op) (operated (o.VectorMath op) (vector_arguments op es)) (outputs_fit sources taken (vector_math op) es fit).1).0;
    few = omega (arith, few _ fit.0, few_vectors sources op es);
    one_source = (agree.0, vectors_sourced agree.0 op es agree.1);
  }

  pub can_random : (kind : ValueKind) → Fit (random_value kind) → CanApply sources (o.RandomValue kind) (random_arguments kind es)
  can_random kind fit = record {
    takes = listed (o.RandomValue kind) (random_arguments kind es) (outputs_fit sources taken (random_value kind) es fit).1.0.0;
    few = omega (arith, few _ fit.0, few_random sources kind es);
    one_source = (agree.0, random_sourced agree.0 kind es agree.1);
  }

  -- ---- operations and steps that read all inputs

  pub can_compare : (kind : CompareKind) (op : CompareOp) → Fit (compare kind op) → CanApply sources (o.Compare kind op) es
  unfolding Takes
  can_compare kind op fit = can_apply sources (o.Compare kind op) es (compare_takes kind) fit.0 (few_compared kind) refl agree

  pub can_clamp : Fit clamp → CanApply sources o.Clamp es
  unfolding Takes
  can_clamp fit = can_apply sources o.Clamp es (Fixed ∷ Fixed ∷ Fixed ∷ []) fit.0 (omega arith) refl agree

  pub can_map_range : (inside : Bool) → Fit (map_range inside) → CanApply sources (o.MapRange inside) es
  unfolding Takes
  can_map_range inside fit = can_apply sources (o.MapRange inside) es (Fixed ∷ Fixed ∷ Fixed ∷ Fixed ∷ Fixed ∷ []) fit.0 (omega arith) refl agree

  pub can_mix : (kind : MixKind) → Fit (mix kind) → CanApply sources (o.Mix kind) es
  unfolding Takes
  can_mix kind fit = can_apply sources (o.Mix kind) es (mix_takes kind) fit.0 (few_mixed kind) refl agree

  pub can_round : (mode : RoundMode) → Fit (float_to_integer mode) → CanApply sources (o.FloatToInteger mode) es
  unfolding Takes
  can_round mode fit = can_apply sources (o.FloatToInteger mode) es (Fixed ∷ []) fit.0 (omega arith) refl agree

  pub can_combine : Fit combine_xyz → CanApply sources o.CombineXyz es
  unfolding Takes
  can_combine fit = can_apply sources o.CombineXyz es (Fixed ∷ Fixed ∷ Fixed ∷ []) fit.0 (omega arith) refl agree

  pub can_separate : (axis : Axis) → Fit separate_xyz → CanApply sources (o.SeparateXyz axis) es
  unfolding Takes
  can_separate axis fit = can_apply sources (o.SeparateXyz axis) es (Vector ∷ []) fit.0 (omega arith) refl agree

  pub can_accumulate : (kind : ValueKind) (place : Place) (part : Part) → Fit (accumulate_field kind place) → CanRead sources (accumulate kind place part) es
  can_accumulate kind place part fit = can_read sources (accumulate kind place part) es fit.0 (omega arith) agree

  pub can_read_at : (kind : ValueKind) (place : Place) → Fit (evaluate_at_index kind place) → CanRead sources (at_index kind place) es
  can_read_at kind place fit = can_read sources (at_index kind place) es fit.0 (omega arith) agree

  pub can_read_on : (kind : ValueKind) (place : Place) → Fit (evaluate_on_domain kind place) → CanRead sources (on_domain kind place) es
  can_read_on kind place fit = can_read sources (on_domain kind place) es fit.0 (omega arith) agree
