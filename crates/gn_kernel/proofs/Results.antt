-- The kinds of what operations give.
use Rattle.std.proofs.Common.{◌∙◌, ap, ◌+◌, ◌≡◌, ◌<◌, ℕ, zero, suc, List, [], ◌∷◌, map, length, replicate, slice_index_or, slice_get, All, Some, sym, refl, arith, option_map}
use Rattle.std.proofs.Math.Numerals.{suc-eq-add-one}
use Rattle.std.proofs.lemmas.List.Elements.{All-head, All-tail}
use Rattle.gn_value.specs.Registers.{register_kind, register_len, register_value, registers_named}
use Rattle.gn_value.specs.Values.{converted, kind_of, zero_of}
use Rattle.gn_value.specs.declared.value.Value.{Value}
use Rattle.gn_value.specs.declared.value.ValueKind.{ValueKind}
use Rattle.gn_value.specs.declared.value.ValueKind.TheVariants as k
use Rattle.gn_value.specs.Operations.{mix_gives, vector_math_gives}
use Rattle.gn_value.specs.declared.op.VectorMathOp.{VectorMathOp}
use Rattle.gn_value.specs.declared.op.VectorMathOp.TheVariants as v
use Rattle.gn_value.specs.declared.op.MixKind.{MixKind}
use Rattle.gn_value.specs.declared.op.MixKind.TheVariants as x
use Rattle.gn_value.specs.declared.op.Register.{Register}
use Rattle.gn_value.specs.declared.op.Register.TheVariants.{Truth, Int, Fixed, Vector}

-- operations on vectors and mixtures give neither truths nor integers
pub vectors_give_no_truth : (op : VectorMathOp) → vector_math_gives op ≡ k.Truth → ⊥
unfolding vector_math_gives
vectors_give_no_truth v.Dot e = cc
vectors_give_no_truth v.Length e = cc
vectors_give_no_truth v.Distance e = cc
vectors_give_no_truth _ e = cc

pub vectors_give_no_int : (op : VectorMathOp) → vector_math_gives op ≡ k.Int → ⊥
unfolding vector_math_gives
vectors_give_no_int v.Dot e = cc
vectors_give_no_int v.Length e = cc
vectors_give_no_int v.Distance e = cc
vectors_give_no_int _ e = cc

pub mixtures_give_no_truth : (kind : MixKind) → mix_gives kind ≡ k.Truth → ⊥
mixtures_give_no_truth x.Fixed e = cc
mixtures_give_no_truth x.Vector e = cc

pub mixtures_give_no_int : (kind : MixKind) → mix_gives kind ≡ k.Int → ⊥
mixtures_give_no_int x.Fixed e = cc
mixtures_give_no_int x.Vector e = cc

-- the zero of a kind has that kind, and so has a converted value
pub zero_kind : (kind : ValueKind) → kind_of (zero_of kind) ≡ kind
zero_kind k.Truth = refl
zero_kind k.Int = refl
zero_kind k.Fixed = refl
zero_kind k.Vector = refl

pub converted_kind : (v : Value) (kind : ValueKind) → kind_of (converted v kind) ≡ kind
unfolding converted
converted_kind v k.Truth = refl
converted_kind v k.Int = refl
converted_kind v k.Fixed = refl
converted_kind v k.Vector = refl
