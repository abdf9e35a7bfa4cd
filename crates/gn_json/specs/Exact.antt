-- The tree that a JSON value is, with nothing made up: there is none where a key that must be there is
-- missing, or where something has not the shape of what it stands for.
use Rattle.std.specs.Prelude.{ℕ, Bool, true, false, List, [], ◌∷◌, codes, bytes_eq, Option, Some, None, option_and_then, option_map, if◌then◌else◌}
use Rattle.std.specs.Option.{option_map_or}
use Rattle.std.specs.List.{list_any}
use Rattle.serde_json.specs.Data.{Data, null, boolean, number, string, array, object, Items, no_items, item, Members, no_members, member}
use Rattle.serde_json.specs.Find.{get, as_bool, as_str, as_array, as_object, as_number, as_u64}
use Rattle.gn_value.specs.declared.value.Place.{Place}
use Rattle.gn_kinds.specs.declared.row.SocketKind.{SocketKind}
use Rattle.gn_kinds.specs.Names.{kind_named, place_named}
use Rattle.gn_kinds.specs.Row as row
use Rattle.gn_kinds.specs.Row.{Text}
use Rattle.gn_kinds.specs.Table.{any_kind}
use Rattle.gn_atom.specs.Constant.{constant_as, constant_in}
use Rattle.gn_form.specs.Form.{are_links, row_in_node, setting_key}
use Rattle.gn_tree.specs.Trees.{Link, Input, constant, link, links, Named, Socket, of_kind, op, place, clamp, a_name, file, value, of_group, Node, node, Settings, no_settings, and_setting, and_zone, Group, Tree}
use Rattle.gn_tree.specs.Seen.{nodes_of}

-- f of both, where both are there
abbrev pub both : {A B C : Type 0} → (A → B → C) → Option A → Option B → Option C
both f a b = option_and_then (λ x. option_map (f x) b) a

-- ---- texts, links and inputs

-- the text under a key
abbrev pub text_under : Text → Data → Option Text
text_under k d = option_and_then as_str (get k d)

abbrev pub a_link : Text → Text → Link
a_link from socket = record { from = from; socket = socket }

abbrev pub link_from : Data → Option Link
link_from d = both a_link (text_under (codes "from") d) (text_under (codes "socket") d)

abbrev pub links_from : Items → Option (List Link)
links_from no_items = Some []
links_from (item d ds) = both (λ x xs. x ∷ xs) (link_from d) (links_from ds)

abbrev pub input_from : Data → Option Input
input_from (array ds) = if are_links ds then option_map links (links_from ds) else option_map constant (constant_in (array ds))
input_from (object ms) = option_map link (link_from (object ms))
input_from d = option_map constant (constant_in d)

abbrev pub named : Text → Input → Named
named name input = record { name = name; input = input }

abbrev pub inputs_from : Members → Option (List Named)
inputs_from no_members = Some []
inputs_from (member k d ms) = both (λ x xs. named k x ∷ xs) (input_from d) (inputs_from ms)

-- the inputs under a key that may be missing
abbrev pub inputs_under : Text → Data → Option (List Named)
inputs_under k d = option_map_or (λ e. option_and_then inputs_from (as_object e)) (get k d) (Some [])

-- ---- sockets

abbrev pub kind_under : List SocketKind → Text → Data → Option SocketKind
kind_under kinds k d = option_and_then (kind_named kinds) (text_under k d)

abbrev pub a_socket : Text → SocketKind → Socket
a_socket name kind = record { name = name; kind = kind }

abbrev pub socket_from : Data → Option Socket
socket_from d = both a_socket (text_under (codes "name") d) (kind_under any_kind (codes "kind") d)

abbrev pub sockets_from : Items → Option (List Socket)
sockets_from no_items = Some []
sockets_from (item d ds) = both (λ x xs. x ∷ xs) (socket_from d) (sockets_from ds)

abbrev pub sockets_under : Text → Data → Option (List Socket)
sockets_under k d = option_and_then sockets_from (option_and_then as_array (get k d))

-- ---- settings

abbrev pub place_under : List Place → Text → Data → Option Place
place_under places k d = option_and_then (place_named places) (text_under k d)

-- a setting before the others; the three that make up a zone stand in it
abbrev pub with_setting : row.Setting → Data → Settings → Option Settings
with_setting (row.type_in kinds) d rest = option_map (λ k. and_setting (of_kind k) rest) (kind_under kinds (codes "type") d)
with_setting (row.op_in names) d rest = option_map (λ n. and_setting (op n) rest) (text_under (codes "op") d)
with_setting (row.place_in places) d rest = option_map (λ p. and_setting (place p) rest) (place_under places (codes "place") d)
with_setting row.a_clamp d rest = option_map (λ on. and_setting (clamp on) rest) (option_and_then as_bool (get (codes "clamp") d))
with_setting row.a_name d rest = option_map (λ n. and_setting (a_name n) rest) (text_under (codes "name") d)
with_setting row.a_file d rest = option_map (λ n. and_setting (file n) rest) (text_under (codes "file") d)
with_setting (row.value_of kind) d rest = option_map (λ v. and_setting (value v) rest) (option_and_then (constant_as kind) (get (codes "value") d))
with_setting row.group_name d rest = option_map (λ n. and_setting (of_group n) rest) (text_under (codes "group") d)
with_setting row.zone_items d rest = Some rest
with_setting row.zone_nodes d rest = Some rest
with_setting row.zone_output d rest = Some rest

-- the settings of a kind, in the order of its row, before the rest
abbrev pub with_settings : Settings → List row.Setting → Data → Option Settings
with_settings rest [] d = Some rest
with_settings rest (s ∷ ss) d = option_and_then (with_setting s d) (with_settings rest ss d)

abbrev pub is_zone : row.Setting → Bool
is_zone row.zone_items = true
is_zone _ = false

abbrev pub a_zone : List Socket → List Node → List Named → Settings
a_zone items nodes output = and_zone items (nodes_of nodes) output no_settings

-- a zone with these nodes, where the kind has one
abbrev pub zone_from : Bool → Data → Option (List Node) → Option Settings
zone_from false d nodes = Some no_settings
zone_from true d nodes =
    option_and_then (λ items. both (a_zone items) nodes (inputs_under (codes "output") d)) (sockets_under (codes "items") d)

abbrev pub settings_from : List row.Setting → Data → Option (List Node) → Option Settings
settings_from ss d nodes = option_and_then (λ zone. with_settings zone ss d) (zone_from (list_any is_zone ss) d nodes)

abbrev pub is_needed : row.Setting → Bool
is_needed s = (setting_key s).needed

-- ---- nodes

abbrev pub a_node : Option Text → Option Text → Option Settings → Option (List Named) → Option Node
a_node id kind settings inputs = option_and_then (λ i. option_and_then (λ k. both (node i k) settings inputs) kind) id

abbrev mutual
  pub node_from : Data → Option Node
  node_from (object ms) =
      a_node (text_under (codes "id") (object ms)) (text_under (codes "kind") (object ms))
      (option_and_then (λ kind. settings_found kind.settings ms) (row_in_node (object ms))) (inputs_under (codes "in") (object ms))
  node_from null = None
  node_from (boolean b) = None
  node_from (number n) = None
  node_from (string s) = None
  node_from (array ds) = None

  -- the settings under the key `set`, which is missing only where none is needed
  pub settings_found : List row.Setting → Members → Option Settings
  settings_found ss no_members = if list_any is_needed ss then None else Some no_settings
  settings_found ss (member k d ms) = if bytes_eq (codes "set") k then settings_of_value ss d else settings_found ss ms

  pub settings_of_value : List row.Setting → Data → Option Settings
  settings_of_value ss (object ms) = settings_from ss (object ms) (nodes_found ms)
  settings_of_value ss null = None
  settings_of_value ss (boolean b) = None
  settings_of_value ss (number n) = None
  settings_of_value ss (string s) = None
  settings_of_value ss (array ds) = None

  -- the nodes under the key `nodes`
  pub nodes_found : Members → Option (List Node)
  nodes_found no_members = None
  nodes_found (member k d ms) = if bytes_eq (codes "nodes") k then nodes_of_value d else nodes_found ms

  pub nodes_of_value : Data → Option (List Node)
  nodes_of_value (array ds) = nodes_from ds
  nodes_of_value null = None
  nodes_of_value (boolean b) = None
  nodes_of_value (number n) = None
  nodes_of_value (string s) = None
  nodes_of_value (object ms) = None

  pub nodes_from : Items → Option (List Node)
  nodes_from no_items = Some []
  nodes_from (item d ds) = both (λ x xs. x ∷ xs) (node_from d) (nodes_from ds)

abbrev pub nodes_under : Data → Option (List Node)
nodes_under d = option_and_then nodes_found (as_object d)

-- ---- groups and trees

abbrev pub a_group : Text → List Socket → List Socket → List Node → List Named → Group
a_group name inputs outputs nodes output = record { name = name; inputs = inputs; outputs = outputs; nodes = nodes_of nodes; output = output }

abbrev pub group_from : Data → Option Group
group_from d =
    option_and_then (λ name. option_and_then (λ inputs. option_and_then (λ outputs.
    both (a_group name inputs outputs) (nodes_under d) (inputs_under (codes "output") d))
    (sockets_under (codes "outputs") d)) (sockets_under (codes "inputs") d)) (text_under (codes "name") d)

abbrev pub groups_from : Items → Option (List Group)
groups_from no_items = Some []
groups_from (item d ds) = both (λ x xs. x ∷ xs) (group_from d) (groups_from ds)

-- the groups; none where the key is missing
abbrev pub groups_under : Data → Option (List Group)
groups_under d = option_map_or (λ e. option_and_then groups_from (as_array e)) (get (codes "groups") d) (Some [])

-- what the tree gives out, if the key is there
abbrev pub output_under : Data → Option (Option Input)
output_under d = option_map_or (λ e. option_map (λ x. Some x) (input_from e)) (get (codes "output") d) (Some None)

abbrev pub format_under : Data → Option ℕ
format_under d = option_and_then as_u64 (option_and_then as_number (get (codes "format") d))

abbrev pub a_tree : ℕ → List Group → List Node → Option Input → Tree
a_tree format groups nodes output = record { format = format; groups = groups; nodes = nodes_of nodes; output = output }

abbrev pub tree_from : Data → Option Tree
tree_from d =
    option_and_then (λ format. option_and_then (λ groups. both (a_tree format groups) (nodes_under d) (output_under d)) (groups_under d)) (format_under d)
