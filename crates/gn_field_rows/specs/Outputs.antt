-- The fields at the outputs of a node, for those at its inputs.
use Rattle.std.specs.Prelude.{List, [], ◌∷◌, Option, Some, None}
use Rattle.gn_value.specs.Operations.{math_takes, integer_math_takes, boolean_math_takes}
use Rattle.gn_value.specs.declared.value.Value.TheVariants.{Truth as truth, Int as int, Fixed as fixed, Vector as a_vector}
use Rattle.gn_value.specs.declared.op.Op.TheVariants.{Math, IntegerMath, VectorMath, BooleanMath, Compare, Clamp, MapRange, Mix, FloatToInteger, CombineXyz, SeparateXyz, RandomValue}
use Rattle.gn_value.specs.declared.op.Axis.TheVariants.{X, Y, Z}
use Rattle.gn_plain.specs.Columns.{named}
use Rattle.gn_plain.specs.Contexts as read
use Rattle.gn_plain.specs.Fields.{leading, trailing, total, Step, accumulate, at_index, on_domain, Expr, constant, input, elsewhere}
use Rattle.gn_node_kind.specs.Kinds.{NodeKind, float, integer, boolean, vector, position, index, id, normal, named_attribute, edge_vertices, vertex_neighbors, math, integer_math, vector_math, boolean_math, compare, clamp, map_range, mix, float_to_integer, combine_xyz, separate_xyz, random_value, accumulate_field, evaluate_at_index, evaluate_on_domain}
use Rattle.gn_field.specs.Steps.{exprs_of}
use Rattle.gn_field_rows.specs.Arguments.{operated, first, vector_arguments, vector_math_outputs, random_arguments}

module _ {S : Type 0} where
  abbrev pub seen_from : Step → List (Expr S) → Expr S
  seen_from step es = elsewhere step (exprs_of es)

  -- of a kind of node that gives other things than fields, nothing is said
  abbrev pub field_outputs : NodeKind → List (Expr S) → Option (List (Expr S))
  field_outputs (float x) es = Some (constant (fixed x) ∷ [])
  field_outputs (integer n) es = Some (constant (int n) ∷ [])
  field_outputs (boolean b) es = Some (constant (truth b) ∷ [])
  field_outputs (vector v) es = Some (constant (a_vector v) ∷ [])
  field_outputs position es = Some (input read.position ∷ [])
  field_outputs index es = Some (input read.index ∷ [])
  field_outputs id es = Some (input read.id ∷ [])
  field_outputs normal es = Some (input read.normal ∷ [])
  field_outputs (named_attribute name kind) es = Some (input (read.column (named name) kind) ∷ input (read.exists name) ∷ [])
  field_outputs edge_vertices es = Some (input read.edge_index_1 ∷ input read.edge_index_2 ∷ input read.edge_position_1 ∷ input read.edge_position_2 ∷ [])
  field_outputs vertex_neighbors es = Some (input read.vertex_edges ∷ input read.vertex_faces ∷ [])
  field_outputs (math op) es = Some (operated (Math op) (first (math_takes op) es) ∷ [])
  field_outputs (integer_math op) es = Some (operated (IntegerMath op) (first (integer_math_takes op) es) ∷ [])
  field_outputs (vector_math op) es = Some (vector_math_outputs op (operated (VectorMath op) (vector_arguments op es)))
  field_outputs (boolean_math op) es = Some (operated (BooleanMath op) (first (boolean_math_takes op) es) ∷ [])
  field_outputs (compare kind op) es = Some (operated (Compare kind op) es ∷ [])
  field_outputs clamp es = Some (operated Clamp es ∷ [])
  field_outputs (map_range inside) es = Some (operated (MapRange inside) es ∷ [])
  field_outputs (mix kind) es = Some (operated (Mix kind) es ∷ [])
  field_outputs (float_to_integer op) es = Some (operated (FloatToInteger op) es ∷ [])
  field_outputs combine_xyz es = Some (operated CombineXyz es ∷ [])
  field_outputs separate_xyz es = Some (operated (SeparateXyz X) es ∷ operated (SeparateXyz Y) es ∷ operated (SeparateXyz Z) es ∷ [])
  field_outputs (random_value kind) es = Some (operated (RandomValue kind) (random_arguments kind es) ∷ [])
  field_outputs (accumulate_field kind place) es =
      Some (seen_from (accumulate kind place leading) es ∷ seen_from (accumulate kind place trailing) es ∷ seen_from (accumulate kind place total) es ∷ [])
  field_outputs (evaluate_at_index kind place) es = Some (seen_from (at_index kind place) es ∷ [])
  field_outputs (evaluate_on_domain kind place) es = Some (seen_from (on_domain kind place) es ∷ [])
  field_outputs kind es = None
