-- What a node, a zone, a group or a list of nodes declares: inputs and outputs by their names.
use Rattle.std.specs.Prelude.{ℕ, zero, suc, Bool, true, false, List, [], ◌∷◌, ◌++◌, map, Option, Some, None, option_and_then, option_map, slice_get, find, bytes_eq}
use Rattle.std.specs.Option.{option_map_or}
use Rattle.gn_value.specs.declared.value.ValueKind.{ValueKind}
use Rattle.gn_value.specs.declared.value.ValueKind.TheVariants as of
use Rattle.gn_kinds.specs.declared.row.SocketKind.{SocketKind}
use Rattle.gn_kinds.specs.declared.row.SocketKind.TheVariants.{Truth, Int, Fixed, Vector, Geometry}
use Rattle.gn_kinds.specs.Row as row
use Rattle.gn_kinds.specs.Row.{Text}
use Rattle.gn_kinds.specs.Table.{row_of_kind}
use Rattle.gn_names.specs.First.{first_of}
use Rattle.gn_rules.specs.declared.shape.Shape.{Shape}
use Rattle.gn_tree.specs.Trees.{Socket, Node, node, Settings, no_settings, and_setting, and_zone, Nodes, no_nodes, and_node, Group, of_kind, of_group}
use Rattle.gn_tree.specs.Nodes.{id_in}

-- a socket of that name
pub record Declared : Type 0 where
  pub name : Text
  pub shape : Shape

abbrev pub single : SocketKind → Shape
single kind = record { kind = kind; many = false }

abbrev pub one : Text → SocketKind → Declared
one name kind = record { name = name; shape = single kind }

abbrev pub one_of : Socket → Declared
one_of s = one s.name s.kind

-- what the first of these sockets with that name carries
abbrev pub declared : List Declared → Text → Option Shape
declared ds name = option_map (λ d. d.shape) (find (λ d. bytes_eq name d.name) ds)

-- ---- the rows of the table, where the setting `type` names the kind `chosen`

abbrev pub of_values : ValueKind → SocketKind
of_values of.Truth = Truth
of_values of.Int = Int
of_values of.Fixed = Fixed
of_values of.Vector = Vector

abbrev pub input_of_row : SocketKind → row.Input → Declared
input_of_row chosen (row.field_in name kind default) = one name (of_values kind)
input_of_row chosen (row.single_in name kind default) = one name (of_values kind)
input_of_row chosen (row.geometry_in name) = one name Geometry
input_of_row chosen (row.geometries_in name) = record { name = name; shape = record { kind = Geometry; many = true } }
input_of_row chosen (row.chosen_in name default) = one name chosen

abbrev pub output_of_row : SocketKind → row.Output → Declared
output_of_row chosen (row.field_out name kind) = one name (of_values kind)
output_of_row chosen (row.geometry_out name) = one name Geometry
output_of_row chosen (row.chosen_out name) = one name chosen

abbrev pub inputs_of_kind : Text → List row.Input
inputs_of_kind kind = option_map_or (λ r. r.inputs) (row_of_kind kind) []

abbrev pub outputs_of_kind : Text → List row.Output
outputs_of_kind kind = option_map_or (λ r. r.outputs) (row_of_kind kind) []

-- ---- settings

-- the kind that the setting `type` names; no row of the table asks for it in a node without that setting
abbrev pub chosen : Settings → SocketKind
chosen no_settings = Geometry
chosen (and_setting (of_kind k) rest) = k
chosen (and_setting x rest) = chosen rest
chosen (and_zone items nodes output rest) = chosen rest

-- the group that is named
abbrev pub group_in : Settings → Option Text
group_in no_settings = None
group_in (and_setting (of_group name) rest) = Some name
group_in (and_setting x rest) = group_in rest
group_in (and_zone items nodes output rest) = group_in rest

-- the items of the zone
abbrev pub items_in : Settings → List Socket
items_in no_settings = []
items_in (and_setting x rest) = items_in rest
items_in (and_zone items nodes output rest) = items

abbrev pub is_zone : Settings → Bool
is_zone no_settings = false
is_zone (and_setting x rest) = is_zone rest
is_zone (and_zone items nodes output rest) = true

-- ---- groups and nodes by their names

abbrev pub group_names : List Group → List Text
group_names gs = map (λ g. g.name) gs

abbrev pub group_named : List Group → Text → Option Group
group_named gs name = option_and_then (λ i. slice_get gs i) (first_of (group_names gs) name)

abbrev pub ids : Nodes → List Text
ids no_nodes = []
ids (and_node n ns) = id_in n ∷ ids ns

abbrev pub node_at : Nodes → ℕ → Option Node
node_at no_nodes i = None
node_at (and_node n ns) zero = Some n
node_at (and_node n ns) (suc i) = node_at ns i

abbrev pub node_named : Nodes → Text → Option Node
node_named ns id = option_and_then (λ i. node_at ns i) (first_of (ids ns) id)

-- ---- the inputs and outputs of a node: those of its kind, and those of its group or its zone's items

abbrev pub further : (Group → List Socket) → List Group → Settings → List Socket
further side gs settings = by_group (group_in settings)
  where
    by_group : Option Text → List Socket
    by_group None = items_in settings
    by_group (Some name) = option_map_or side (group_named gs name) []

abbrev pub inputs_of : List Group → Node → List Declared
inputs_of gs (node id kind settings inputs) = map (input_of_row (chosen settings)) (inputs_of_kind kind) ++ map one_of (further (λ g. g.inputs) gs settings)

abbrev pub outputs_of : List Group → Node → List Declared
outputs_of gs (node id kind settings inputs) = map (output_of_row (chosen settings)) (outputs_of_kind kind) ++ map one_of (further (λ g. g.outputs) gs settings)
