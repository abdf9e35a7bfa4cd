-- The table of kinds.
use Rattle.std.specs.Prelude.{ℕ, pos, ◌*◌, ◌^◌, true, false, List, [], ◌∷◌, codes, Option, None, find, bytes_eq}
use Rattle.std.specs.Option.{option_or}
use Rattle.gn_value.specs.Values.{fx, v3}
use Rattle.gn_value.specs.declared.value.Value.TheVariants.{Truth as truth, Int as int, Fixed as fixed, Vector as vector}
use Rattle.gn_value.specs.declared.value.ValueKind.{ValueKind}
use Rattle.gn_value.specs.declared.value.ValueKind.TheVariants.{Truth, Int, Fixed, Vector}
use Rattle.gn_value.specs.declared.value.Place.{Place}
use Rattle.gn_value.specs.declared.value.Place.TheVariants as place
use Rattle.gn_kinds.specs.declared.row.SocketKind.{SocketKind}
use Rattle.gn_kinds.specs.declared.row.SocketKind.TheVariants as a
use Rattle.gn_kinds.specs.declared.row.DefaultValue.{DefaultValue}
use Rattle.gn_kinds.specs.declared.row.DefaultValue.TheVariants.{Zero, One, Constant, Position, Index, Id}
use Rattle.gn_kinds.specs.Row.{Text, Setting, type_in, op_in, place_in, a_clamp, a_name, a_file, value_of, group_name, zone_items, zone_nodes, zone_output, Input, field_in, single_in, geometry_in, geometries_in, chosen_in, Output, field_out, geometry_out, chosen_out, KindRow}

abbrev pub any_kind : List SocketKind
any_kind = a.Truth ∷ a.Int ∷ a.Fixed ∷ a.Vector ∷ a.Geometry ∷ []

abbrev pub value_kinds : List SocketKind
value_kinds = a.Truth ∷ a.Int ∷ a.Fixed ∷ a.Vector ∷ []

abbrev pub any_place : List Place
any_place = place.Point ∷ place.Edge ∷ place.Face ∷ place.Corner ∷ place.Cloud ∷ place.Instance ∷ []

abbrev pub mesh_places : List Place
mesh_places = place.Point ∷ place.Edge ∷ place.Face ∷ place.Corner ∷ []

abbrev pub any_but_corner : List Place
any_but_corner = place.Point ∷ place.Edge ∷ place.Face ∷ place.Cloud ∷ place.Instance ∷ []

-- ---- defaults

abbrev is_true : DefaultValue
is_true = Constant (truth true)

abbrev whole : ℕ → DefaultValue
whole n = Constant (int (pos n))

abbrev half : DefaultValue
half = Constant (fixed (fx (pos (2 ^ 31))))

abbrev axis : ℕ → ℕ → ℕ → DefaultValue
axis x y z = Constant (vector (v3 (pos (x * 2 ^ 32)) (pos (y * 2 ^ 32)) (pos (z * 2 ^ 32))))

-- ---- inputs and outputs that stand in many rows

abbrev geometry : Input
geometry = geometry_in (codes "geometry")

abbrev selection : Input
selection = field_in (codes "selection") Truth is_true

abbrev position : Input
position = field_in (codes "position") Vector Position

abbrev value : Input
value = chosen_in (codes "value") Zero

abbrev the_index : Input
the_index = field_in (codes "index") Int Index

abbrev new_geometry : Output
new_geometry = geometry_out (codes "geometry")

abbrev a_value : ValueKind → Output
a_value kind = field_out (codes "value") kind

abbrev chosen_value : Output
chosen_value = chosen_out (codes "value")

-- a row whose sockets are just these
abbrev row : Text → List Setting → List Input → List Output → KindRow
row kind settings inputs outputs = record { kind = kind; settings = settings; inputs = inputs; outputs = outputs; open_ended = false }

-- a row whose further sockets the node itself names
abbrev open_row : Text → List Setting → List Input → KindRow
open_row kind settings inputs = record { kind = kind; settings = settings; inputs = inputs; outputs = []; open_ended = true }

-- values and inputs
unfoldable pub values : List KindRow
values =
    row (codes "float") (value_of Fixed ∷ []) [] (a_value Fixed ∷ []) ∷
    row (codes "integer") (value_of Int ∷ []) [] (a_value Int ∷ []) ∷
    row (codes "boolean") (value_of Truth ∷ []) [] (a_value Truth ∷ []) ∷
    row (codes "vector") (value_of Vector ∷ []) [] (a_value Vector ∷ []) ∷
    row (codes "position") [] [] (field_out (codes "position") Vector ∷ []) ∷
    row (codes "index") [] [] (field_out (codes "index") Int ∷ []) ∷
    row (codes "id") [] [] (field_out (codes "id") Int ∷ []) ∷
    row (codes "normal") [] [] (field_out (codes "normal") Vector ∷ []) ∷
    row (codes "named_attribute") (a_name ∷ type_in value_kinds ∷ []) [] (chosen_value ∷ field_out (codes "exists") Truth ∷ []) ∷
    row (codes "edge_vertices") [] []
    (field_out (codes "index_1") Int ∷ field_out (codes "index_2") Int ∷ field_out (codes "position_1") Vector ∷ field_out (codes "position_2") Vector ∷ []) ∷
    row (codes "vertex_neighbors") [] [] (field_out (codes "vertices") Int ∷ field_out (codes "faces") Int ∷ []) ∷
    []

-- functions of values
unfoldable pub functions : List KindRow
functions =
    row (codes "math") (op_in (codes "add" ∷ codes "subtract" ∷ codes "multiply" ∷ codes "divide" ∷ codes "modulo" ∷ codes "minimum" ∷ codes "maximum" ∷ codes "absolute" ∷ codes "sign" ∷ codes "floor" ∷ codes "ceil" ∷ codes "fraction" ∷ codes "sqrt" ∷ codes "less_than" ∷ codes "greater_than" ∷ []) ∷ [])
    (field_in (codes "a") Fixed Zero ∷ field_in (codes "b") Fixed Zero ∷ []) (a_value Fixed ∷ []) ∷
    row (codes "integer_math") (op_in (codes "add" ∷ codes "subtract" ∷ codes "multiply" ∷ codes "divide" ∷ codes "modulo" ∷ codes "minimum" ∷ codes "maximum" ∷ codes "absolute" ∷ codes "sign" ∷ codes "negate" ∷ []) ∷ [])
    (field_in (codes "a") Int Zero ∷ field_in (codes "b") Int Zero ∷ []) (a_value Int ∷ []) ∷
    row (codes "vector_math") (op_in (codes "add" ∷ codes "subtract" ∷ codes "multiply" ∷ codes "divide" ∷ codes "minimum" ∷ codes "maximum" ∷ codes "absolute" ∷ codes "cross" ∷ codes "scale" ∷ codes "normalize" ∷ codes "dot" ∷ codes "length" ∷ codes "distance" ∷ []) ∷ [])
    (field_in (codes "a") Vector Zero ∷ field_in (codes "b") Vector Zero ∷ field_in (codes "scale") Fixed One ∷ []) (field_out (codes "vector") Vector ∷ a_value Fixed ∷ []) ∷
    row (codes "boolean_math") (op_in (codes "and" ∷ codes "or" ∷ codes "xor" ∷ codes "nand" ∷ codes "nor" ∷ codes "not" ∷ []) ∷ [])
    (field_in (codes "a") Truth Zero ∷ field_in (codes "b") Truth Zero ∷ []) (a_value Truth ∷ []) ∷
    row (codes "compare") (type_in (a.Int ∷ a.Fixed ∷ []) ∷ op_in (codes "less" ∷ codes "less_equal" ∷ codes "greater" ∷ codes "greater_equal" ∷ codes "equal" ∷ codes "not_equal" ∷ []) ∷ [])
    (chosen_in (codes "a") Zero ∷ chosen_in (codes "b") Zero ∷ []) (field_out (codes "result") Truth ∷ []) ∷
    row (codes "clamp") [] (field_in (codes "value") Fixed Zero ∷ field_in (codes "min") Fixed Zero ∷ field_in (codes "max") Fixed One ∷ []) (a_value Fixed ∷ []) ∷
    row (codes "map_range") (a_clamp ∷ [])
    (field_in (codes "value") Fixed Zero ∷ field_in (codes "from_min") Fixed Zero ∷ field_in (codes "from_max") Fixed One ∷ field_in (codes "to_min") Fixed Zero ∷ field_in (codes "to_max") Fixed One ∷ []) (a_value Fixed ∷ []) ∷
    row (codes "mix") (type_in (a.Fixed ∷ a.Vector ∷ []) ∷ []) (field_in (codes "factor") Fixed half ∷ chosen_in (codes "a") Zero ∷ chosen_in (codes "b") Zero ∷ []) (chosen_value ∷ []) ∷
    row (codes "float_to_integer") (op_in (codes "round" ∷ codes "floor" ∷ codes "ceil" ∷ codes "truncate" ∷ []) ∷ []) (field_in (codes "value") Fixed Zero ∷ []) (a_value Int ∷ []) ∷
    row (codes "combine_xyz") [] (field_in (codes "x") Fixed Zero ∷ field_in (codes "y") Fixed Zero ∷ field_in (codes "z") Fixed Zero ∷ []) (field_out (codes "vector") Vector ∷ []) ∷
    row (codes "separate_xyz") [] (field_in (codes "vector") Vector Zero ∷ []) (field_out (codes "x") Fixed ∷ field_out (codes "y") Fixed ∷ field_out (codes "z") Fixed ∷ []) ∷
    row (codes "random_value") (type_in value_kinds ∷ [])
    (chosen_in (codes "min") Zero ∷ chosen_in (codes "max") One ∷ field_in (codes "probability") Fixed half ∷ field_in (codes "id") Int Id ∷ field_in (codes "seed") Int Zero ∷ []) (chosen_value ∷ []) ∷
    row (codes "switch") (type_in any_kind ∷ []) (field_in (codes "switch") Truth Zero ∷ chosen_in (codes "false") Zero ∷ chosen_in (codes "true") Zero ∷ []) (chosen_out (codes "output") ∷ []) ∷
    []

-- fields that look elsewhere
unfoldable pub elsewhere : List KindRow
elsewhere =
    row (codes "accumulate_field") (type_in (a.Int ∷ a.Fixed ∷ a.Vector ∷ []) ∷ place_in any_place ∷ []) (chosen_in (codes "value") One ∷ field_in (codes "group") Int Zero ∷ [])
    (chosen_out (codes "leading") ∷ chosen_out (codes "trailing") ∷ chosen_out (codes "total") ∷ []) ∷
    row (codes "evaluate_at_index") (type_in value_kinds ∷ place_in any_place ∷ []) (value ∷ the_index ∷ []) (chosen_value ∷ []) ∷
    row (codes "evaluate_on_domain") (type_in value_kinds ∷ place_in any_place ∷ []) (value ∷ []) (chosen_value ∷ []) ∷
    row (codes "sample_index") (type_in value_kinds ∷ place_in any_place ∷ a_clamp ∷ []) (geometry ∷ value ∷ the_index ∷ []) (chosen_value ∷ []) ∷
    row (codes "sample_nearest") (place_in any_place ∷ []) (geometry ∷ position ∷ []) (field_out (codes "index") Int ∷ []) ∷
    []

-- attributes
unfoldable pub attributes : List KindRow
attributes =
    row (codes "capture_attribute") (type_in value_kinds ∷ place_in any_place ∷ []) (geometry ∷ value ∷ []) (new_geometry ∷ chosen_out (codes "attribute") ∷ []) ∷
    row (codes "store_named_attribute") (a_name ∷ type_in value_kinds ∷ place_in any_place ∷ []) (geometry ∷ selection ∷ value ∷ []) (new_geometry ∷ []) ∷
    row (codes "remove_named_attribute") (a_name ∷ []) (geometry ∷ []) (new_geometry ∷ []) ∷
    row (codes "attribute_statistic") (place_in any_place ∷ []) (geometry ∷ selection ∷ field_in (codes "attribute") Fixed Zero ∷ [])
    (field_out (codes "mean") Fixed ∷ field_out (codes "sum") Fixed ∷ field_out (codes "min") Fixed ∷ field_out (codes "max") Fixed ∷ field_out (codes "range") Fixed ∷ []) ∷
    row (codes "domain_size") [] (geometry ∷ [])
    (field_out (codes "points") Int ∷ field_out (codes "edges") Int ∷ field_out (codes "faces") Int ∷ field_out (codes "corners") Int ∷ field_out (codes "cloud") Int ∷ field_out (codes "instances") Int ∷ []) ∷
    row (codes "set_position") [] (geometry ∷ selection ∷ position ∷ field_in (codes "offset") Vector Zero ∷ []) (new_geometry ∷ []) ∷
    row (codes "set_id") [] (geometry ∷ selection ∷ field_in (codes "id") Int Index ∷ []) (new_geometry ∷ []) ∷
    []

-- geometry
unfoldable pub geometry_kinds : List KindRow
geometry_kinds =
    row (codes "join_geometry") [] (geometries_in (codes "geometry") ∷ []) (new_geometry ∷ []) ∷
    row (codes "transform_geometry") []
    (geometry ∷ single_in (codes "translation") Vector Zero ∷ single_in (codes "row_x") Vector (axis 1 0 0) ∷ single_in (codes "row_y") Vector (axis 0 1 0) ∷ single_in (codes "row_z") Vector (axis 0 0 1) ∷ []) (new_geometry ∷ []) ∷
    row (codes "delete_geometry") (place_in any_but_corner ∷ []) (geometry ∷ selection ∷ []) (new_geometry ∷ []) ∷
    row (codes "separate_geometry") (place_in any_but_corner ∷ []) (geometry ∷ selection ∷ []) (geometry_out (codes "selection") ∷ geometry_out (codes "inverted") ∷ []) ∷
    row (codes "separate_components") [] (geometry ∷ []) (geometry_out (codes "mesh") ∷ geometry_out (codes "cloud") ∷ geometry_out (codes "instances") ∷ []) ∷
    row (codes "bounding_box") [] (geometry ∷ []) (new_geometry ∷ field_out (codes "min") Vector ∷ field_out (codes "max") Vector ∷ []) ∷
    row (codes "flip_faces") [] (geometry ∷ selection ∷ []) (new_geometry ∷ []) ∷
    row (codes "mesh_to_points") (place_in mesh_places ∷ []) (geometry ∷ selection ∷ position ∷ []) (new_geometry ∷ []) ∷
    row (codes "points_to_vertices") [] (geometry ∷ selection ∷ []) (new_geometry ∷ []) ∷
    row (codes "duplicate_elements") [] (geometry ∷ selection ∷ field_in (codes "amount") Int One ∷ []) (new_geometry ∷ field_out (codes "duplicate_index") Int ∷ []) ∷
    row (codes "mesh_line") [] (single_in (codes "count") Int (whole 10) ∷ single_in (codes "start") Vector Zero ∷ single_in (codes "offset") Vector (axis 0 0 1) ∷ []) (new_geometry ∷ []) ∷
    row (codes "grid") []
    (single_in (codes "size_x") Fixed One ∷ single_in (codes "size_y") Fixed One ∷ single_in (codes "vertices_x") Int (whole 3) ∷ single_in (codes "vertices_y") Int (whole 3) ∷ []) (new_geometry ∷ []) ∷
    row (codes "cube") [] (single_in (codes "size") Vector One ∷ []) (new_geometry ∷ []) ∷
    row (codes "points") [] (single_in (codes "count") Int One ∷ field_in (codes "position") Vector Zero ∷ []) (new_geometry ∷ []) ∷
    row (codes "import_obj") (a_file ∷ []) [] (new_geometry ∷ []) ∷
    open_row (codes "repeat") (zone_items ∷ zone_nodes ∷ zone_output ∷ []) (single_in (codes "iterations") Int One ∷ []) ∷
    []

-- instances
unfoldable pub instance_kinds : List KindRow
instance_kinds =
    row (codes "geometry_to_instance") [] (geometries_in (codes "geometry") ∷ []) (new_geometry ∷ []) ∷
    row (codes "instance_on_points") [] (geometry_in (codes "points") ∷ selection ∷ geometry_in (codes "instance") ∷ field_in (codes "scale") Vector One ∷ []) (new_geometry ∷ []) ∷
    row (codes "realize_instances") [] (geometry ∷ []) (new_geometry ∷ []) ∷
    row (codes "translate_instances") [] (geometry ∷ selection ∷ field_in (codes "translation") Vector Zero ∷ []) (new_geometry ∷ []) ∷
    row (codes "scale_instances") [] (geometry ∷ selection ∷ field_in (codes "scale") Vector One ∷ []) (new_geometry ∷ []) ∷
    row (codes "instances_to_points") [] (geometry ∷ selection ∷ position ∷ []) (new_geometry ∷ []) ∷
    []

-- groups, which a tree is freed of before it is run
unfoldable pub groups : List KindRow
groups =
    open_row (codes "group") (group_name ∷ []) [] ∷
    []

-- the rows of all kinds, in sections
unfoldable pub table : List (List KindRow)
table = values ∷ functions ∷ elsewhere ∷ attributes ∷ geometry_kinds ∷ instance_kinds ∷ groups ∷ []

-- the row of a kind among these
abbrev pub row_in : List KindRow → Text → Option KindRow
row_in rows kind = find (λ row. bytes_eq row.kind kind) rows

abbrev pub row_in_sections : List (List KindRow) → Text → Option KindRow
row_in_sections [] kind = None
row_in_sections (rows ∷ more) kind = option_or (row_in rows kind) (row_in_sections more kind)

-- the row of a kind
unfoldable pub row_of_kind : Text → Option KindRow
row_of_kind kind = row_in_sections table kind
