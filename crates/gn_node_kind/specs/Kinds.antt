-- Kinds of nodes with the values of their settings, and which kind a name with settings is.
use Rattle.std.specs.Prelude.{ℤ, Bool, List, [], ◌∷◌, Option, Some, None, option_map, option_and_then, codes, bytes_eq, if◌then◌else◌}
use Rattle.gn_value.specs.declared.fixed.Fx.{Fx}
use Rattle.gn_value.specs.declared.vector.V3.{V3}
use Rattle.gn_value.specs.declared.value.Value.{Value}
use Rattle.gn_value.specs.declared.value.Value.TheVariants as value
use Rattle.gn_value.specs.declared.value.ValueKind.{ValueKind}
use Rattle.gn_value.specs.declared.value.ValueKind.TheVariants as value_kind
use Rattle.gn_value.specs.declared.value.Place.{Place}
use Rattle.gn_value.specs.declared.op.MathOp.{MathOp}
use Rattle.gn_value.specs.declared.op.IntegerMathOp.{IntegerMathOp}
use Rattle.gn_value.specs.declared.op.VectorMathOp.{VectorMathOp}
use Rattle.gn_value.specs.declared.op.BooleanMathOp.{BooleanMathOp}
use Rattle.gn_value.specs.declared.op.CompareKind.{CompareKind}
use Rattle.gn_value.specs.declared.op.CompareKind.TheVariants as compare_kind
use Rattle.gn_value.specs.declared.op.CompareOp.{CompareOp}
use Rattle.gn_value.specs.declared.op.MixKind.{MixKind}
use Rattle.gn_value.specs.declared.op.MixKind.TheVariants as mix_kind
use Rattle.gn_value.specs.declared.op.RoundMode.{RoundMode}
use Rattle.gn_kinds.specs.declared.row.SocketKind.{SocketKind}
use Rattle.gn_kinds.specs.declared.row.SocketKind.TheVariants as socket
use Rattle.gn_kinds.specs.Row.{Text}
use Rattle.gn_tree.specs.Trees as trees
use Rattle.gn_tree.specs.Trees.{Group, Setting, Settings, no_settings, and_setting, and_zone}
use Rattle.gn_node_kind.specs.Named.{named_in, math_ops, integer_math_ops, vector_math_ops, boolean_math_ops, compare_ops, round_modes}

pub data NodeKind : Type 0 where
  -- constants
  float : Fx → NodeKind
  integer : ℤ → NodeKind
  boolean : Bool → NodeKind
  vector : V3 → NodeKind
  -- what is read of an element
  position index id normal edge_vertices vertex_neighbors : NodeKind
  named_attribute : Text → ValueKind → NodeKind
  -- operations on values
  math : MathOp → NodeKind
  integer_math : IntegerMathOp → NodeKind
  vector_math : VectorMathOp → NodeKind
  boolean_math : BooleanMathOp → NodeKind
  compare : CompareKind → CompareOp → NodeKind
  map_range : Bool → NodeKind
  mix : MixKind → NodeKind
  float_to_integer : RoundMode → NodeKind
  random_value : ValueKind → NodeKind
  switch : SocketKind → NodeKind
  clamp combine_xyz separate_xyz : NodeKind
  -- fields that are read elsewhere
  accumulate_field evaluate_at_index evaluate_on_domain : ValueKind → Place → NodeKind
  sample_index : ValueKind → Place → Bool → NodeKind
  sample_nearest : Place → NodeKind
  -- attributes
  capture_attribute : ValueKind → Place → NodeKind
  store_named_attribute : Text → ValueKind → Place → NodeKind
  remove_named_attribute : Text → NodeKind
  attribute_statistic : Place → NodeKind
  domain_size set_position set_id : NodeKind
  -- geometry
  join_geometry transform_geometry separate_components bounding_box flip_faces points_to_vertices duplicate_elements mesh_line grid cube points : NodeKind
  delete_geometry separate_geometry mesh_to_points : Place → NodeKind
  import_obj : Text → NodeKind
  -- a zone: its items, the nodes of its body, what the body gives out, and the groups of its tree
  repeat : List trees.Socket → trees.Nodes → List trees.Named → List Group → NodeKind
  -- instances
  geometry_to_instance instance_on_points realize_instances translate_instances scale_instances instances_to_points : NodeKind

-- ---- what the setting `type` may be

abbrev pub value_kind_in : SocketKind → Option ValueKind
value_kind_in socket.Truth = Some value_kind.Truth
value_kind_in socket.Int = Some value_kind.Int
value_kind_in socket.Fixed = Some value_kind.Fixed
value_kind_in socket.Vector = Some value_kind.Vector
value_kind_in socket.Geometry = None

abbrev pub compare_kind_in : SocketKind → Option CompareKind
compare_kind_in socket.Int = Some compare_kind.Int
compare_kind_in socket.Fixed = Some compare_kind.Fixed
compare_kind_in _ = None

abbrev pub mix_kind_in : SocketKind → Option MixKind
mix_kind_in socket.Fixed = Some mix_kind.Fixed
mix_kind_in socket.Vector = Some mix_kind.Vector
mix_kind_in _ = None

-- ---- kinds by their names

abbrev pub bare_kinds : List (Text × NodeKind)
bare_kinds = (codes "position", position) ∷ (codes "index", index) ∷ (codes "id", id) ∷ (codes "normal", normal) ∷ (codes "edge_vertices", edge_vertices)
    ∷ (codes "vertex_neighbors", vertex_neighbors) ∷ (codes "clamp", clamp) ∷ (codes "combine_xyz", combine_xyz) ∷ (codes "separate_xyz", separate_xyz) ∷ (codes "domain_size", domain_size)
    ∷ (codes "set_position", set_position) ∷ (codes "set_id", set_id) ∷ (codes "join_geometry", join_geometry) ∷ (codes "transform_geometry", transform_geometry) ∷ (codes "separate_components", separate_components)
    ∷ (codes "bounding_box", bounding_box) ∷ (codes "flip_faces", flip_faces) ∷ (codes "points_to_vertices", points_to_vertices) ∷ (codes "duplicate_elements", duplicate_elements) ∷ (codes "mesh_line", mesh_line)
    ∷ (codes "grid", grid) ∷ (codes "cube", cube) ∷ (codes "points", points) ∷ (codes "geometry_to_instance", geometry_to_instance) ∷ (codes "instance_on_points", instance_on_points)
    ∷ (codes "realize_instances", realize_instances) ∷ (codes "translate_instances", translate_instances) ∷ (codes "scale_instances", scale_instances) ∷ (codes "instances_to_points", instances_to_points) ∷ []

-- a kind without settings, by its name
abbrev pub named_in_bare : Text → Option NodeKind
named_in_bare name = named_in bare_kinds name

abbrev pub kinds_by_place : List (Text × (Place → NodeKind))
kinds_by_place = (codes "sample_nearest", sample_nearest) ∷ (codes "attribute_statistic", attribute_statistic) ∷ (codes "delete_geometry", delete_geometry) ∷ (codes "separate_geometry", separate_geometry) ∷ (codes "mesh_to_points", mesh_to_points) ∷ []

abbrev pub kinds_by_type_and_place : List (Text × (ValueKind → Place → NodeKind))
kinds_by_type_and_place = (codes "accumulate_field", accumulate_field) ∷ (codes "evaluate_at_index", evaluate_at_index) ∷ (codes "evaluate_on_domain", evaluate_on_domain) ∷ (codes "capture_attribute", capture_attribute) ∷ []

-- a kind by its name, if it has that one
abbrev pub only : Text → Text → Option NodeKind → Option NodeKind
only word name kind = if bytes_eq word name then kind else None

abbrev pub kind_by_value : Text → Value → Option NodeKind
kind_by_value name (value.Truth v) = only (codes "boolean") name (Some (boolean v))
kind_by_value name (value.Int v) = only (codes "integer") name (Some (integer v))
kind_by_value name (value.Fixed v) = only (codes "float") name (Some (float v))
kind_by_value name (value.Vector v) = only (codes "vector") name (Some (vector v))

-- the readers of the settings `op` and `type`, by the names of their kinds
abbrev pub readers_of_op : List (Text × (Text → Option NodeKind))
readers_of_op = (codes "math", λ op. option_map math (named_in math_ops op)) ∷ (codes "integer_math", λ op. option_map integer_math (named_in integer_math_ops op))
    ∷ (codes "vector_math", λ op. option_map vector_math (named_in vector_math_ops op)) ∷ (codes "boolean_math", λ op. option_map boolean_math (named_in boolean_math_ops op))
    ∷ (codes "float_to_integer", λ op. option_map float_to_integer (named_in round_modes op)) ∷ []

abbrev pub readers_of_type : List (Text × (SocketKind → Option NodeKind))
readers_of_type = (codes "mix", λ of. option_map mix (mix_kind_in of)) ∷ (codes "random_value", λ of. option_map random_value (value_kind_in of)) ∷ (codes "switch", λ of. Some (switch of)) ∷ []

abbrev pub kind_by_op : Text → Text → Option NodeKind
kind_by_op name op = option_and_then (λ read. read op) (named_in readers_of_op name)

abbrev pub kind_by_type : Text → SocketKind → Option NodeKind
kind_by_type name of = option_and_then (λ read. read of) (named_in readers_of_type name)

abbrev pub kind_by_place : Text → Place → Option NodeKind
kind_by_place name place = option_map (λ kind. kind place) (named_in kinds_by_place name)

abbrev pub kind_by_clamp : Text → Bool → Option NodeKind
kind_by_clamp name on = only (codes "map_range") name (Some (map_range on))

abbrev pub kind_by_name : Text → Text → Option NodeKind
kind_by_name name text = only (codes "remove_named_attribute") name (Some (remove_named_attribute text))

abbrev pub kind_by_file : Text → Text → Option NodeKind
kind_by_file name file = only (codes "import_obj") name (Some (import_obj file))

abbrev pub comparison : Text → SocketKind → Text → Option NodeKind
comparison name of op = only (codes "compare") name (option_and_then (λ kind. option_map (compare kind) (named_in compare_ops op)) (compare_kind_in of))

abbrev pub kind_by_type_and_place : Text → SocketKind → Place → Option NodeKind
kind_by_type_and_place name of place = option_and_then (λ of. option_map (λ kind. kind of place) (named_in kinds_by_type_and_place name)) (value_kind_in of)

abbrev pub kind_by_name_and_type : Text → Text → SocketKind → Option NodeKind
kind_by_name_and_type name text of = only (codes "named_attribute") name (option_map (named_attribute text) (value_kind_in of))

abbrev pub sample_by : Text → SocketKind → Place → Bool → Option NodeKind
sample_by name of place on = only (codes "sample_index") name (option_map (λ of. sample_index of place on) (value_kind_in of))

abbrev pub stored_as : Text → SocketKind → Place → Option NodeKind
stored_as text of place = option_map (λ of. store_named_attribute text of place) (value_kind_in of)

abbrev pub kind_by_name_type_and_place : Text → Text → SocketKind → Place → Option NodeKind
kind_by_name_type_and_place name text of place = only (codes "store_named_attribute") name (stored_as text of place)

abbrev pub zone_kind : Text → List trees.Socket → trees.Nodes → List trees.Named → List Group → Option NodeKind
zone_kind name items nodes output groups = only (codes "repeat") name (Some (repeat items nodes output groups))

-- a kind by its name and its settings
abbrev pub kind_by_one : Text → Setting → Option NodeKind
kind_by_one name (trees.value v) = kind_by_value name v
kind_by_one name (trees.op op) = kind_by_op name op
kind_by_one name (trees.of_kind of) = kind_by_type name of
kind_by_one name (trees.place place) = kind_by_place name place
kind_by_one name (trees.clamp on) = kind_by_clamp name on
kind_by_one name (trees.a_name text) = kind_by_name name text
kind_by_one name (trees.file file) = kind_by_file name file
kind_by_one name (trees.of_group text) = None

abbrev pub kind_by_two : Text → Setting → Setting → Option NodeKind
kind_by_two name (trees.of_kind of) (trees.op op) = comparison name of op
kind_by_two name (trees.of_kind of) (trees.place place) = kind_by_type_and_place name of place
kind_by_two name (trees.a_name text) (trees.of_kind of) = kind_by_name_and_type name text of
kind_by_two name _ _ = None

abbrev pub kind_by_three : Text → Setting → Setting → Setting → Option NodeKind
kind_by_three name (trees.of_kind of) (trees.place place) (trees.clamp on) = sample_by name of place on
kind_by_three name (trees.a_name text) (trees.of_kind of) (trees.place place) = kind_by_name_type_and_place name text of place
kind_by_three name _ _ _ = None

-- the kind of that name with these settings, in a tree with these groups
abbrev pub kind_with : List Group → Text → Settings → Option NodeKind
kind_with groups name no_settings = named_in_bare name
kind_with groups name (and_setting a no_settings) = kind_by_one name a
kind_with groups name (and_setting a (and_setting b no_settings)) = kind_by_two name a b
kind_with groups name (and_setting a (and_setting b (and_setting c no_settings))) = kind_by_three name a b c
kind_with groups name (and_zone items nodes output no_settings) = zone_kind name items nodes output groups
kind_with groups name _ = None
