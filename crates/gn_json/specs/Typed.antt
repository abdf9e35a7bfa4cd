-- The tree that is made of a JSON value. Where a key is missing or a value has another shape, something
-- stands in for it; of a value of a tree's form all is its own (`Exact`).
use Rattle.std.specs.Prelude.{ℕ, ◌^◌, nat_lt, Bool, true, false, List, [], ◌∷◌, codes, bytes_eq, Option, Some, None, option_and_then, option_map, if◌then◌else◌}
use Rattle.std.specs.Option.{option_map_or, unwrap_or}
use Rattle.std.specs.List.{list_any}
use Rattle.serde_json.specs.Data.{Data, null, boolean, number, string, array, object, Items, no_items, item, Members, no_members, member}
use Rattle.serde_json.specs.Find.{get, as_bool, as_str, as_array, as_object, as_number, as_u64}
use Rattle.gn_value.specs.declared.value.Place.{Place}
use Rattle.gn_value.specs.declared.value.Place.TheVariants.{Point}
use Rattle.gn_value.specs.declared.value.Value.{Value}
use Rattle.gn_value.specs.declared.value.Value.TheVariants.{Truth as truth}
use Rattle.gn_value.specs.declared.value.ValueKind.{ValueKind}
use Rattle.gn_kinds.specs.declared.row.SocketKind.{SocketKind}
use Rattle.gn_kinds.specs.declared.row.SocketKind.TheVariants.{Truth}
use Rattle.gn_kinds.specs.Names.{kind_named, place_named}
use Rattle.gn_kinds.specs.Row as row
use Rattle.gn_kinds.specs.Row.{Text, KindRow}
use Rattle.gn_kinds.specs.Table.{any_kind}
use Rattle.gn_atom.specs.Constant.{constant_as, constant_in}
use Rattle.gn_form.specs.Form.{are_links, row_in_node}
use Rattle.gn_tree.specs.Trees.{Link, Input, constant, link, links, Named, Socket, Setting, of_kind, op, place, clamp, a_name, file, value, of_group, Node, node, Settings, no_settings, and_setting, and_zone, Group, Tree}
use Rattle.gn_tree.specs.Seen.{nodes_of}
use Rattle.gn_json.specs.Exact.{is_zone}

-- ---- texts, links and inputs

-- the text under a key
abbrev pub text_at : Text → Data → Text
text_at k d = unwrap_or (option_and_then as_str (get k d)) []

abbrev pub link_in : Data → Link
link_in d = record { from = text_at (codes "from") d; socket = text_at (codes "socket") d }

abbrev pub links_in : Items → List Link
links_in no_items = []
links_in (item d ds) = link_in d ∷ links_in ds

abbrev pub constant_or_false : Option Value → Value
constant_or_false found = unwrap_or found (truth false)

abbrev pub input_in : Data → Input
input_in (array ds) = if are_links ds then links (links_in ds) else constant (constant_or_false (constant_in (array ds)))
input_in (object ms) = link (link_in (object ms))
input_in d = constant (constant_or_false (constant_in d))

abbrev pub inputs_in : Members → List Named
inputs_in no_members = []
inputs_in (member k d ms) = record { name = k; input = input_in d } ∷ inputs_in ms

-- the inputs under a key; none where it is missing
abbrev pub inputs_at : Text → Data → List Named
inputs_at k d = option_map_or inputs_in (option_and_then as_object (get k d)) []

-- ---- sockets

abbrev pub kind_at : List SocketKind → Text → Data → SocketKind
kind_at kinds k d = unwrap_or (kind_named kinds (text_at k d)) Truth

abbrev pub socket_in : Data → Socket
socket_in d = record { name = text_at (codes "name") d; kind = kind_at any_kind (codes "kind") d }

abbrev pub sockets_in : Items → List Socket
sockets_in no_items = []
sockets_in (item d ds) = socket_in d ∷ sockets_in ds

abbrev pub sockets_at : Text → Data → List Socket
sockets_at k d = option_map_or sockets_in (option_and_then as_array (get k d)) []

-- ---- settings

abbrev pub place_at : List Place → Text → Data → Place
place_at places k d = unwrap_or (place_named places (text_at k d)) Point

abbrev pub truth_at : Text → Data → Bool
truth_at k d = unwrap_or (option_and_then as_bool (get k d)) false

abbrev pub value_at : ValueKind → Text → Data → Value
value_at kind k d = constant_or_false (option_and_then (constant_as kind) (get k d))

-- a setting that holds no nodes
abbrev pub setting_in : row.Setting → Data → Option Setting
setting_in (row.type_in kinds) d = Some (of_kind (kind_at kinds (codes "type") d))
setting_in (row.op_in names) d = Some (op (text_at (codes "op") d))
setting_in (row.place_in places) d = Some (place (place_at places (codes "place") d))
setting_in row.a_clamp d = Some (clamp (truth_at (codes "clamp") d))
setting_in row.a_name d = Some (a_name (text_at (codes "name") d))
setting_in row.a_file d = Some (file (text_at (codes "file") d))
setting_in (row.value_of kind) d = Some (value (value_at kind (codes "value") d))
setting_in row.group_name d = Some (of_group (text_at (codes "group") d))
setting_in row.zone_items d = None
setting_in row.zone_nodes d = None
setting_in row.zone_output d = None

abbrev pub then_setting : Option Setting → Settings → Settings
then_setting None rest = rest
then_setting (Some x) rest = and_setting x rest

-- the settings that hold no nodes, in the order of the row, and then the rest
abbrev pub settings_before : Settings → List row.Setting → Data → Settings
settings_before rest [] d = rest
settings_before rest (s ∷ ss) d = then_setting (setting_in s d) (settings_before rest ss d)

-- a zone with these nodes, where the row has one
abbrev pub zone_if : Bool → Data → List Node → Settings
zone_if false d nodes = no_settings
zone_if true d nodes = and_zone (sockets_at (codes "items") d) (nodes_of nodes) (inputs_at (codes "output") d) no_settings

abbrev pub settings_in : List row.Setting → Data → List Node → Settings
settings_in ss d nodes = settings_before (zone_if (list_any is_zone ss) d nodes) ss d

-- ---- nodes

-- the settings of a node's kind
abbrev pub settings_of_kind : Data → List row.Setting
settings_of_kind d = option_map_or (λ row. row.settings) (row_in_node d) []

abbrev mutual
  pub node_in : Data → Node
  node_in (object ms) = node (text_at (codes "id") (object ms)) (text_at (codes "kind") (object ms)) (settings_among (settings_of_kind (object ms)) ms) (inputs_at (codes "in") (object ms))
  node_in null = node [] [] no_settings []
  node_in (boolean b) = node [] [] no_settings []
  node_in (number n) = node [] [] no_settings []
  node_in (string s) = node [] [] no_settings []
  node_in (array ds) = node [] [] no_settings []

  -- the settings under the key `set`; none where it is missing
  pub settings_among : List row.Setting → Members → Settings
  settings_among ss no_members = no_settings
  settings_among ss (member k d ms) = if bytes_eq (codes "set") k then settings_under ss d else settings_among ss ms

  pub settings_under : List row.Setting → Data → Settings
  settings_under ss (object ms) = settings_in ss (object ms) (nodes_among ms)
  settings_under ss null = no_settings
  settings_under ss (boolean b) = no_settings
  settings_under ss (number n) = no_settings
  settings_under ss (string s) = no_settings
  settings_under ss (array ds) = no_settings

  -- the nodes under the key `nodes`
  pub nodes_among : Members → List Node
  nodes_among no_members = []
  nodes_among (member k d ms) = if bytes_eq (codes "nodes") k then nodes_under d else nodes_among ms

  pub nodes_under : Data → List Node
  nodes_under (array ds) = nodes_in ds
  nodes_under null = []
  nodes_under (boolean b) = []
  nodes_under (number n) = []
  nodes_under (string s) = []
  nodes_under (object ms) = []

  pub nodes_in : Items → List Node
  nodes_in no_items = []
  nodes_in (item d ds) = node_in d ∷ nodes_in ds

abbrev pub nodes_at : Data → List Node
nodes_at d = option_map_or nodes_among (as_object d) []

-- ---- groups and trees

abbrev pub group_in : Data → Group
group_in d = record {
  name = text_at (codes "name") d;
  inputs = sockets_at (codes "inputs") d;
  outputs = sockets_at (codes "outputs") d;
  nodes = nodes_of (nodes_at d);
  output = inputs_at (codes "output") d;
}

abbrev pub groups_in : Items → List Group
groups_in no_items = []
groups_in (item d ds) = group_in d ∷ groups_in ds

abbrev pub in_32_bits : ℕ → ℕ
in_32_bits n = if nat_lt n (2 ^ 32) then n else 0

abbrev pub format_in : Data → ℕ
format_in d = option_map_or in_32_bits (option_and_then as_u64 (option_and_then as_number (get (codes "format") d))) 0

abbrev pub tree_in : Data → Tree
tree_in d = record {
  format = format_in d;
  groups = option_map_or groups_in (option_and_then as_array (get (codes "groups") d)) [];
  nodes = nodes_of (nodes_at d);
  output = option_map input_in (get (codes "output") d);
}
