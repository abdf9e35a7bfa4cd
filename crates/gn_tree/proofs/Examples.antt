-- Which trees are of their form, by computation.
use Rattle.std.proofs.Common.{◌≡◌, ℕ, pos, true, false, List, [], ◌∷◌, None, codes, refl}
use Rattle.gn_value.specs.declared.value.Place.{Place}
use Rattle.gn_value.specs.declared.value.Place.TheVariants.{Point, Corner}
use Rattle.gn_value.specs.declared.value.Value.TheVariants.{Truth as truth, Int as int}
use Rattle.gn_kinds.specs.declared.row.SocketKind.TheVariants.{Int, Geometry}
use Rattle.gn_kinds.specs.Row.{Text}
use Rattle.gn_kinds.specs.Table.{row_of_kind, table, values, functions, elsewhere, attributes, geometry_kinds, instance_kinds, groups}
use Rattle.gn_tree.specs.Trees.{Input, constant, link, Named, of_kind, op, place, value, of_group, Node, node, Settings, no_settings, and_setting, and_zone, no_nodes, and_node, Tree}
use Rattle.gn_tree.specs.Form.{node_fits, tree_fits}

abbrev a_link : Text → Text → Input
a_link from socket = link (record { from = from; socket = socket })

abbrev at : Text → Input → List Named
at name input = record { name = name; input = input } ∷ []

abbrev of_one : ℕ → Node → Tree
of_one format x = record { format = format; groups = []; nodes = and_node x no_nodes; output = None }

abbrev alone : Text → Text → Node
alone id kind = node id kind no_settings []

-- a node that compares two integers
abbrev compared : Settings → Node
compared settings = node (codes "a") (codes "compare") settings (at (codes "b") (a_link (codes "n") (codes "value")))

abbrev taken_at : Place → Node
taken_at p = node (codes "d") (codes "delete_geometry") (and_setting (place p) no_settings) (at (codes "geometry") (a_link (codes "input") (codes "geometry")))

an_index : tree_fits (of_one 1 (alone (codes "a") (codes "index"))) ≡ true
unfolding row_of_kind table values functions elsewhere attributes geometry_kinds instance_kinds groups
an_index = refl

another_format : tree_fits (of_one 7 (alone (codes "a") (codes "index"))) ≡ false
another_format = refl

a_wrong_id : tree_fits (of_one 1 (alone (codes "NOT AN ID") (codes "index"))) ≡ false
a_wrong_id = refl

an_unknown_kind : tree_fits (of_one 1 (alone (codes "a") (codes "nope"))) ≡ false
unfolding row_of_kind table values functions elsewhere attributes geometry_kinds instance_kinds groups
an_unknown_kind = refl

-- the settings of a row, in its order
a_comparison : node_fits (compared (and_setting (of_kind Int) (and_setting (op (codes "less")) no_settings))) ≡ true
unfolding row_of_kind table values functions elsewhere attributes geometry_kinds instance_kinds groups
a_comparison = refl

settings_out_of_order : node_fits (compared (and_setting (op (codes "less")) (and_setting (of_kind Int) no_settings))) ≡ false
unfolding row_of_kind table values functions elsewhere attributes geometry_kinds instance_kinds groups
settings_out_of_order = refl

a_setting_too_few : node_fits (compared (and_setting (of_kind Int) no_settings)) ≡ false
unfolding row_of_kind table values functions elsewhere attributes geometry_kinds instance_kinds groups
a_setting_too_few = refl

-- values outside of their sets
a_comparison_of_geometry : node_fits (compared (and_setting (of_kind Geometry) (and_setting (op (codes "less")) no_settings))) ≡ false
unfolding row_of_kind table values functions elsewhere attributes geometry_kinds instance_kinds groups
a_comparison_of_geometry = refl

an_operation_of_another_kind : node_fits (compared (and_setting (of_kind Int) (and_setting (op (codes "add")) no_settings))) ≡ false
unfolding row_of_kind table values functions elsewhere attributes geometry_kinds instance_kinds groups
an_operation_of_another_kind = refl

points_deleted : node_fits (taken_at Point) ≡ true
unfolding row_of_kind table values functions elsewhere attributes geometry_kinds instance_kinds groups
points_deleted = refl

corners_deleted : node_fits (taken_at Corner) ≡ false
unfolding row_of_kind table values functions elsewhere attributes geometry_kinds instance_kinds groups
corners_deleted = refl

a_truth_that_is_a_number : node_fits (node (codes "a") (codes "boolean") (and_setting (value (int (pos 0))) no_settings) []) ≡ false
unfolding row_of_kind table values functions elsewhere attributes geometry_kinds instance_kinds groups
a_truth_that_is_a_number = refl

-- a closed row has the inputs of the table alone, an open one those that it declares
an_input_of_no_row : node_fits (node (codes "a") (codes "index") no_settings (at (codes "x") (constant (truth true)))) ≡ false
unfolding row_of_kind table values functions elsewhere attributes geometry_kinds instance_kinds groups
an_input_of_no_row = refl

an_input_of_a_group : node_fits (node (codes "a") (codes "group") (and_setting (of_group (codes "g")) no_settings) (at (codes "x") (constant (truth true)))) ≡ true
unfolding row_of_kind table values functions elsewhere attributes geometry_kinds instance_kinds groups
an_input_of_a_group = refl

-- a zone's three settings are one
abbrev repeated : Node → Settings
repeated x = and_zone (record { name = codes "mesh"; kind = Geometry } ∷ []) (and_node x no_nodes) (at (codes "mesh") (a_link (codes "a") (codes "geometry"))) no_settings

a_repeat : node_fits (node (codes "r") (codes "repeat") (repeated (alone (codes "a") (codes "index"))) []) ≡ true
unfolding row_of_kind table values functions elsewhere attributes geometry_kinds instance_kinds groups
a_repeat = refl

an_unknown_kind_in_a_zone : node_fits (node (codes "r") (codes "repeat") (repeated (alone (codes "a") (codes "nope"))) []) ≡ false
unfolding row_of_kind table values functions elsewhere attributes geometry_kinds instance_kinds groups
an_unknown_kind_in_a_zone = refl

a_zone_in_an_index : node_fits (node (codes "r") (codes "index") (repeated (alone (codes "a") (codes "index"))) []) ≡ false
unfolding row_of_kind table values functions elsewhere attributes geometry_kinds instance_kinds groups
a_zone_in_an_index = refl
