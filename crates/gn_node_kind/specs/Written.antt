-- How a kind is written: its name and its settings.
use Rattle.std.specs.Prelude.{List, [], codes}
use Rattle.gn_value.specs.declared.value.Value.TheVariants as value
use Rattle.gn_value.specs.declared.value.ValueKind.{ValueKind}
use Rattle.gn_value.specs.declared.value.ValueKind.TheVariants as value_kind
use Rattle.gn_value.specs.declared.op.MathOp.{MathOp}
use Rattle.gn_value.specs.declared.op.MathOp.TheVariants as math_op
use Rattle.gn_value.specs.declared.op.IntegerMathOp.{IntegerMathOp}
use Rattle.gn_value.specs.declared.op.IntegerMathOp.TheVariants as integer_op
use Rattle.gn_value.specs.declared.op.VectorMathOp.{VectorMathOp}
use Rattle.gn_value.specs.declared.op.VectorMathOp.TheVariants as vector_op
use Rattle.gn_value.specs.declared.op.BooleanMathOp.{BooleanMathOp}
use Rattle.gn_value.specs.declared.op.BooleanMathOp.TheVariants as boolean_op
use Rattle.gn_value.specs.declared.op.CompareKind.{CompareKind}
use Rattle.gn_value.specs.declared.op.CompareKind.TheVariants as compare_kind
use Rattle.gn_value.specs.declared.op.CompareOp.{CompareOp}
use Rattle.gn_value.specs.declared.op.CompareOp.TheVariants as compare_op
use Rattle.gn_value.specs.declared.op.MixKind.{MixKind}
use Rattle.gn_value.specs.declared.op.MixKind.TheVariants as mix_kind
use Rattle.gn_value.specs.declared.op.RoundMode.{RoundMode}
use Rattle.gn_value.specs.declared.op.RoundMode.TheVariants as round_mode
use Rattle.gn_kinds.specs.declared.row.SocketKind.{SocketKind}
use Rattle.gn_kinds.specs.declared.row.SocketKind.TheVariants as socket
use Rattle.gn_kinds.specs.Row.{Text}
use Rattle.gn_tree.specs.Trees as trees
use Rattle.gn_tree.specs.Trees.{Group, Setting, Settings, no_settings, and_setting, and_zone}
use Rattle.gn_node_kind.specs.Kinds as k
use Rattle.gn_node_kind.specs.Kinds.{NodeKind}

-- ---- the names of operations

abbrev pub math_name : MathOp → Text
math_name math_op.Add = codes "add"
math_name math_op.Subtract = codes "subtract"
math_name math_op.Multiply = codes "multiply"
math_name math_op.Divide = codes "divide"
math_name math_op.Modulo = codes "modulo"
math_name math_op.Minimum = codes "minimum"
math_name math_op.Maximum = codes "maximum"
math_name math_op.Absolute = codes "absolute"
math_name math_op.Sign = codes "sign"
math_name math_op.Floor = codes "floor"
math_name math_op.Ceil = codes "ceil"
math_name math_op.Fraction = codes "fraction"
math_name math_op.Sqrt = codes "sqrt"
math_name math_op.LessThan = codes "less_than"
math_name math_op.GreaterThan = codes "greater_than"

abbrev pub integer_math_name : IntegerMathOp → Text
integer_math_name integer_op.Add = codes "add"
integer_math_name integer_op.Subtract = codes "subtract"
integer_math_name integer_op.Multiply = codes "multiply"
integer_math_name integer_op.Divide = codes "divide"
integer_math_name integer_op.Modulo = codes "modulo"
integer_math_name integer_op.Minimum = codes "minimum"
integer_math_name integer_op.Maximum = codes "maximum"
integer_math_name integer_op.Absolute = codes "absolute"
integer_math_name integer_op.Sign = codes "sign"
integer_math_name integer_op.Negate = codes "negate"

abbrev pub vector_math_name : VectorMathOp → Text
vector_math_name vector_op.Add = codes "add"
vector_math_name vector_op.Subtract = codes "subtract"
vector_math_name vector_op.Multiply = codes "multiply"
vector_math_name vector_op.Divide = codes "divide"
vector_math_name vector_op.Minimum = codes "minimum"
vector_math_name vector_op.Maximum = codes "maximum"
vector_math_name vector_op.Absolute = codes "absolute"
vector_math_name vector_op.Cross = codes "cross"
vector_math_name vector_op.Scale = codes "scale"
vector_math_name vector_op.Normalize = codes "normalize"
vector_math_name vector_op.Dot = codes "dot"
vector_math_name vector_op.Length = codes "length"
vector_math_name vector_op.Distance = codes "distance"

abbrev pub boolean_math_name : BooleanMathOp → Text
boolean_math_name boolean_op.And = codes "and"
boolean_math_name boolean_op.Or = codes "or"
boolean_math_name boolean_op.Xor = codes "xor"
boolean_math_name boolean_op.Nand = codes "nand"
boolean_math_name boolean_op.Nor = codes "nor"
boolean_math_name boolean_op.Not = codes "not"

abbrev pub compare_name : CompareOp → Text
compare_name compare_op.Less = codes "less"
compare_name compare_op.LessEqual = codes "less_equal"
compare_name compare_op.Greater = codes "greater"
compare_name compare_op.GreaterEqual = codes "greater_equal"
compare_name compare_op.Equal = codes "equal"
compare_name compare_op.NotEqual = codes "not_equal"

abbrev pub round_name : RoundMode → Text
round_name round_mode.Round = codes "round"
round_name round_mode.Floor = codes "floor"
round_name round_mode.Ceil = codes "ceil"
round_name round_mode.Truncate = codes "truncate"

-- ---- the kinds in the setting `type`

abbrev pub socket_of : ValueKind → SocketKind
socket_of value_kind.Truth = socket.Truth
socket_of value_kind.Int = socket.Int
socket_of value_kind.Fixed = socket.Fixed
socket_of value_kind.Vector = socket.Vector

abbrev pub socket_of_compare : CompareKind → SocketKind
socket_of_compare compare_kind.Int = socket.Int
socket_of_compare compare_kind.Fixed = socket.Fixed

abbrev pub socket_of_mix : MixKind → SocketKind
socket_of_mix mix_kind.Fixed = socket.Fixed
socket_of_mix mix_kind.Vector = socket.Vector

-- ---- names

abbrev pub name_of : NodeKind → Text
name_of (k.float _) = codes "float"
name_of (k.integer _) = codes "integer"
name_of (k.boolean _) = codes "boolean"
name_of (k.vector _) = codes "vector"
name_of k.position = codes "position"
name_of k.index = codes "index"
name_of k.id = codes "id"
name_of k.normal = codes "normal"
name_of (k.named_attribute _ _) = codes "named_attribute"
name_of k.edge_vertices = codes "edge_vertices"
name_of k.vertex_neighbors = codes "vertex_neighbors"
name_of (k.math _) = codes "math"
name_of (k.integer_math _) = codes "integer_math"
name_of (k.vector_math _) = codes "vector_math"
name_of (k.boolean_math _) = codes "boolean_math"
name_of (k.compare _ _) = codes "compare"
name_of k.clamp = codes "clamp"
name_of (k.map_range _) = codes "map_range"
name_of (k.mix _) = codes "mix"
name_of (k.float_to_integer _) = codes "float_to_integer"
name_of k.combine_xyz = codes "combine_xyz"
name_of k.separate_xyz = codes "separate_xyz"
name_of (k.random_value _) = codes "random_value"
name_of (k.switch _) = codes "switch"
name_of (k.accumulate_field _ _) = codes "accumulate_field"
name_of (k.evaluate_at_index _ _) = codes "evaluate_at_index"
name_of (k.evaluate_on_domain _ _) = codes "evaluate_on_domain"
name_of (k.sample_index _ _ _) = codes "sample_index"
name_of (k.sample_nearest _) = codes "sample_nearest"
name_of (k.capture_attribute _ _) = codes "capture_attribute"
name_of (k.store_named_attribute _ _ _) = codes "store_named_attribute"
name_of (k.remove_named_attribute _) = codes "remove_named_attribute"
name_of (k.attribute_statistic _) = codes "attribute_statistic"
name_of k.domain_size = codes "domain_size"
name_of k.set_position = codes "set_position"
name_of k.set_id = codes "set_id"
name_of k.join_geometry = codes "join_geometry"
name_of k.transform_geometry = codes "transform_geometry"
name_of (k.delete_geometry _) = codes "delete_geometry"
name_of (k.separate_geometry _) = codes "separate_geometry"
name_of k.separate_components = codes "separate_components"
name_of k.bounding_box = codes "bounding_box"
name_of k.flip_faces = codes "flip_faces"
name_of (k.mesh_to_points _) = codes "mesh_to_points"
name_of k.points_to_vertices = codes "points_to_vertices"
name_of k.duplicate_elements = codes "duplicate_elements"
name_of k.mesh_line = codes "mesh_line"
name_of k.grid = codes "grid"
name_of k.cube = codes "cube"
name_of k.points = codes "points"
name_of (k.import_obj _) = codes "import_obj"
name_of (k.repeat _ _ _ _) = codes "repeat"
name_of k.geometry_to_instance = codes "geometry_to_instance"
name_of k.instance_on_points = codes "instance_on_points"
name_of k.realize_instances = codes "realize_instances"
name_of k.translate_instances = codes "translate_instances"
name_of k.scale_instances = codes "scale_instances"
name_of k.instances_to_points = codes "instances_to_points"

-- ---- settings

abbrev pub one : Setting → Settings
one a = and_setting a no_settings

abbrev pub two : Setting → Setting → Settings
two a b = and_setting a (one b)

abbrev pub three : Setting → Setting → Setting → Settings
three a b c = and_setting a (two b c)

abbrev pub of_value : ValueKind → Setting
of_value of = trees.of_kind (socket_of of)

abbrev pub settings_of : NodeKind → Settings
settings_of (k.float v) = one (trees.value (value.Fixed v))
settings_of (k.integer v) = one (trees.value (value.Int v))
settings_of (k.boolean v) = one (trees.value (value.Truth v))
settings_of (k.vector v) = one (trees.value (value.Vector v))
settings_of (k.named_attribute text of) = two (trees.a_name text) (of_value of)
settings_of (k.math op) = one (trees.op (math_name op))
settings_of (k.integer_math op) = one (trees.op (integer_math_name op))
settings_of (k.vector_math op) = one (trees.op (vector_math_name op))
settings_of (k.boolean_math op) = one (trees.op (boolean_math_name op))
settings_of (k.compare of op) = two (trees.of_kind (socket_of_compare of)) (trees.op (compare_name op))
settings_of (k.map_range on) = one (trees.clamp on)
settings_of (k.mix of) = one (trees.of_kind (socket_of_mix of))
settings_of (k.float_to_integer op) = one (trees.op (round_name op))
settings_of (k.random_value of) = one (of_value of)
settings_of (k.switch of) = one (trees.of_kind of)
settings_of (k.accumulate_field of place) = two (of_value of) (trees.place place)
settings_of (k.evaluate_at_index of place) = two (of_value of) (trees.place place)
settings_of (k.evaluate_on_domain of place) = two (of_value of) (trees.place place)
settings_of (k.sample_index of place on) = three (of_value of) (trees.place place) (trees.clamp on)
settings_of (k.sample_nearest place) = one (trees.place place)
settings_of (k.capture_attribute of place) = two (of_value of) (trees.place place)
settings_of (k.store_named_attribute text of place) = three (trees.a_name text) (of_value of) (trees.place place)
settings_of (k.remove_named_attribute text) = one (trees.a_name text)
settings_of (k.attribute_statistic place) = one (trees.place place)
settings_of (k.delete_geometry place) = one (trees.place place)
settings_of (k.separate_geometry place) = one (trees.place place)
settings_of (k.mesh_to_points place) = one (trees.place place)
settings_of (k.import_obj text) = one (trees.file text)
settings_of (k.repeat items nodes output groups) = and_zone items nodes output no_settings
settings_of _ = no_settings

-- ---- the groups of the tree, which a zone keeps

abbrev pub groups_of : NodeKind → List Group
groups_of (k.repeat items nodes output groups) = groups
groups_of _ = []
