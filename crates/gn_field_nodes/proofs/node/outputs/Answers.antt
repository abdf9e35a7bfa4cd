use Rattle.std.proofs.Common.{[], ◌∷◌, subst}
use Rattle.gn_value.specs.declared.value.ValueKind.TheVariants.{Int, Fixed, Vector}
use Rattle.gn_node_kind.specs.Seen.{seen}
use Rattle.gn_field.specs.Steps.{plain_part}
use Rattle.gn_field_rows.specs.Kinds.{input_kinds, AreOfKinds}
use Rattle.gn_field_nodes.proofs.Applying.{few_of, can_math, can_integer_math, can_boolean_math, can_vector_math, can_random, can_compare, can_clamp, can_map_range, can_mix, can_round, can_combine, can_separate, can_accumulate, can_read_at, can_read_on}
use Rattle.gn_field_nodes.proofs.node.outputs.Goals as goal

pub operation-requires-after_bounds : goal.operation-requires-after_bounds
operation-requires-after_bounds g c κs within = rw c.math.ensures (can_math g.S.Source.sources g.S.Source.taken c.args.inputs.items c.requires.one_source c.in-Math.op (subst (λ k. AreOfKinds g.S.Source.sources g.S.Source.taken (input_kinds (seen k)) c.args.inputs.items) c.in-Math.is c.requires.fit))

pub integer_math-requires-in-IntegerMath-after_bounds : goal.integer_math-requires-in-IntegerMath-after_bounds
integer_math-requires-in-IntegerMath-after_bounds g c κs within = rw c.integer_math.ensures (can_integer_math g.S.Source.sources g.S.Source.taken c.args.inputs.items c.requires.one_source c.in-IntegerMath.op (subst (λ k. AreOfKinds g.S.Source.sources g.S.Source.taken (input_kinds (seen k)) c.args.inputs.items) c.in-IntegerMath.is c.requires.fit))

pub boolean_math-requires-in-BooleanMath-after_bounds : goal.boolean_math-requires-in-BooleanMath-after_bounds
boolean_math-requires-in-BooleanMath-after_bounds g c κs within = rw c.boolean_math.ensures (can_boolean_math g.S.Source.sources g.S.Source.taken c.args.inputs.items c.requires.one_source c.in-BooleanMath.op (subst (λ k. AreOfKinds g.S.Source.sources g.S.Source.taken (input_kinds (seen k)) c.args.inputs.items) c.in-BooleanMath.is c.requires.fit))

pub vector_math-requires-after_bounds : goal.vector_math-requires-after_bounds
vector_math-requires-after_bounds g c κs within = few_of g.S.Source.sources c.args.inputs.items (Vector ∷ Vector ∷ Fixed ∷ []) (subst (λ k. AreOfKinds g.S.Source.sources g.S.Source.taken (input_kinds (seen k)) c.args.inputs.items) c.in-VectorMath.is c.requires.fit).0

pub vector_math-requires-in-VectorMath-after_bounds : goal.vector_math-requires-in-VectorMath-after_bounds
vector_math-requires-in-VectorMath-after_bounds g c κs within = rw c.vector_math.ensures (can_vector_math g.S.Source.sources g.S.Source.taken c.args.inputs.items c.requires.one_source c.in-VectorMath.op (subst (λ k. AreOfKinds g.S.Source.sources g.S.Source.taken (input_kinds (seen k)) c.args.inputs.items) c.in-VectorMath.is c.requires.fit))

pub operation-requires-in-Compare-after_bounds : goal.operation-requires-in-Compare-after_bounds
operation-requires-in-Compare-after_bounds g c κs within = can_compare g.S.Source.sources g.S.Source.taken c.args.inputs.items c.requires.one_source c.in-Compare.of c.in-Compare.op (subst (λ k. AreOfKinds g.S.Source.sources g.S.Source.taken (input_kinds (seen k)) c.args.inputs.items) c.in-Compare.is c.requires.fit)

pub operation-requires-in-Clamp-after_bounds : goal.operation-requires-in-Clamp-after_bounds
operation-requires-in-Clamp-after_bounds g c κs within = can_clamp g.S.Source.sources g.S.Source.taken c.args.inputs.items c.requires.one_source (subst (λ k. AreOfKinds g.S.Source.sources g.S.Source.taken (input_kinds (seen k)) c.args.inputs.items) c.in-Clamp.is c.requires.fit)

pub operation-requires-in-MapRange-after_bounds : goal.operation-requires-in-MapRange-after_bounds
operation-requires-in-MapRange-after_bounds g c κs within = can_map_range g.S.Source.sources g.S.Source.taken c.args.inputs.items c.requires.one_source c.in-MapRange.clamp (subst (λ k. AreOfKinds g.S.Source.sources g.S.Source.taken (input_kinds (seen k)) c.args.inputs.items) c.in-MapRange.is c.requires.fit)

pub operation-requires-in-Mix-after_bounds : goal.operation-requires-in-Mix-after_bounds
operation-requires-in-Mix-after_bounds g c κs within = can_mix g.S.Source.sources g.S.Source.taken c.args.inputs.items c.requires.one_source c.in-Mix.of (subst (λ k. AreOfKinds g.S.Source.sources g.S.Source.taken (input_kinds (seen k)) c.args.inputs.items) c.in-Mix.is c.requires.fit)

pub operation-requires-in-FloatToInteger-after_bounds : goal.operation-requires-in-FloatToInteger-after_bounds
operation-requires-in-FloatToInteger-after_bounds g c κs within = can_round g.S.Source.sources g.S.Source.taken c.args.inputs.items c.requires.one_source c.in-FloatToInteger.op (subst (λ k. AreOfKinds g.S.Source.sources g.S.Source.taken (input_kinds (seen k)) c.args.inputs.items) c.in-FloatToInteger.is c.requires.fit)

pub operation-requires-in-CombineXyz-after_bounds : goal.operation-requires-in-CombineXyz-after_bounds
operation-requires-in-CombineXyz-after_bounds g c κs within = can_combine g.S.Source.sources g.S.Source.taken c.args.inputs.items c.requires.one_source (subst (λ k. AreOfKinds g.S.Source.sources g.S.Source.taken (input_kinds (seen k)) c.args.inputs.items) c.in-CombineXyz.is c.requires.fit)

pub separate_xyz-requires-after_bounds : goal.separate_xyz-requires-after_bounds
separate_xyz-requires-after_bounds g c κs within = λ axis. rw c.deref.ensures.value (can_separate g.S.Source.sources g.S.Source.taken c.args.inputs.items c.requires.one_source axis (subst (λ k. AreOfKinds g.S.Source.sources g.S.Source.taken (input_kinds (seen k)) c.args.inputs.items) c.in-SeparateXyz.is c.requires.fit))

pub random_value-requires-after_bounds : goal.random_value-requires-after_bounds
random_value-requires-after_bounds g c κs within = few_of g.S.Source.sources c.args.inputs.items (c.in-RandomValue.of ∷ c.in-RandomValue.of ∷ Fixed ∷ Int ∷ Int ∷ []) (subst (λ k. AreOfKinds g.S.Source.sources g.S.Source.taken (input_kinds (seen k)) c.args.inputs.items) c.in-RandomValue.is c.requires.fit).0

pub random_value-requires-in-RandomValue-after_bounds : goal.random_value-requires-in-RandomValue-after_bounds
random_value-requires-in-RandomValue-after_bounds g c κs within = rw c.random_value.ensures (can_random g.S.Source.sources g.S.Source.taken c.args.inputs.items c.requires.one_source c.in-RandomValue.of (subst (λ k. AreOfKinds g.S.Source.sources g.S.Source.taken (input_kinds (seen k)) c.args.inputs.items) c.in-RandomValue.is c.requires.fit))

pub sums-requires-after_bounds : goal.sums-requires-after_bounds
sums-requires-after_bounds g c κs within = λ part. rw c.deref-in-AccumulateField.ensures.value (can_accumulate g.S.Source.sources g.S.Source.taken c.args.inputs.items c.requires.one_source c.in-AccumulateField.of c.in-AccumulateField.place (plain_part part) (subst (λ k. AreOfKinds g.S.Source.sources g.S.Source.taken (input_kinds (seen k)) c.args.inputs.items) c.in-AccumulateField.is c.requires.fit))

pub at_index-requires-after_bounds : goal.at_index-requires-after_bounds
at_index-requires-after_bounds g c κs within = can_read_at g.S.Source.sources g.S.Source.taken c.args.inputs.items c.requires.one_source c.in-EvaluateAtIndex.of c.in-EvaluateAtIndex.place (subst (λ k. AreOfKinds g.S.Source.sources g.S.Source.taken (input_kinds (seen k)) c.args.inputs.items) c.in-EvaluateAtIndex.is c.requires.fit)

pub on_domain-requires-after_bounds : goal.on_domain-requires-after_bounds
on_domain-requires-after_bounds g c κs within = can_read_on g.S.Source.sources g.S.Source.taken c.args.inputs.items c.requires.one_source c.in-EvaluateOnDomain.of c.in-EvaluateOnDomain.place (subst (λ k. AreOfKinds g.S.Source.sources g.S.Source.taken (input_kinds (seen k)) c.args.inputs.items) c.in-EvaluateOnDomain.is c.requires.fit)
