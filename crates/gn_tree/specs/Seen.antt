-- What the code holds, as the data of the definitions.
use Rattle.std.specs.Prelude.{List, [], ◌∷◌, map, string_bytes, String, option_map}
use Rattle.std.specs.declared.alloc.Global.{Global}
use Rattle.gn_tree.specs.Trees as trees
use Rattle.gn_tree.specs.declared.tree.TreeLink.{TreeLink}
use Rattle.gn_tree.specs.declared.tree.TreeInput.{TreeInput}
use Rattle.gn_tree.specs.declared.tree.TreeInput.TheVariants as i
use Rattle.gn_tree.specs.declared.tree.Socket.{Socket}
use Rattle.gn_tree.specs.declared.tree.Group.{Group}
use Rattle.gn_tree.specs.declared.tree.Tree.{Tree}
use Rattle.gn_tree.specs.declared.tree.Setting.{Setting}
use Rattle.gn_tree.specs.declared.tree.Setting.TheVariants as s

abbrev pub Text : Type 0
Text = String Global

abbrev pub link_of : TreeLink → trees.Link
link_of l = record { from = string_bytes l.from; socket = string_bytes l.socket }

abbrev pub input_of : TreeInput → trees.Input
input_of (i.Constant v) = trees.constant v
input_of (i.Link l) = trees.link (link_of l)
input_of (i.Links ls) = trees.links (map link_of ls.items)

abbrev pub named_of : Text × TreeInput → trees.Named
named_of x = record { name = string_bytes x.0; input = input_of x.1 }

abbrev pub socket_of : Socket → trees.Socket
socket_of x = record { name = string_bytes x.name; kind = x.kind }

-- a list of nodes before other nodes
abbrev pub nodes_then : List trees.Node → trees.Nodes → trees.Nodes
nodes_then [] rest = rest
nodes_then (x ∷ xs) rest = trees.and_node x (nodes_then xs rest)

abbrev pub nodes_of : List trees.Node → trees.Nodes
nodes_of xs = nodes_then xs trees.no_nodes

-- a setting, and a list of settings, before other settings
abbrev pub setting_then : Setting → trees.Settings → trees.Settings
setting_then (s.Of k) rest = trees.and_setting (trees.of_kind k) rest
setting_then (s.Op n) rest = trees.and_setting (trees.op (string_bytes n)) rest
setting_then (s.Place p) rest = trees.and_setting (trees.place p) rest
setting_then (s.Clamp on) rest = trees.and_setting (trees.clamp on) rest
setting_then (s.Name n) rest = trees.and_setting (trees.a_name (string_bytes n)) rest
setting_then (s.File n) rest = trees.and_setting (trees.file (string_bytes n)) rest
setting_then (s.Value v) rest = trees.and_setting (trees.value v) rest
setting_then (s.Group n) rest = trees.and_setting (trees.of_group (string_bytes n)) rest
setting_then (s.Zone z) rest = trees.and_zone (map socket_of z.items.items) (nodes_of z.nodes.items) (map named_of z.output.items) rest

abbrev pub settings_then : List Setting → trees.Settings → trees.Settings
settings_then [] rest = rest
settings_then (x ∷ xs) rest = setting_then x (settings_then xs rest)

abbrev pub settings_of : List Setting → trees.Settings
settings_of xs = settings_then xs trees.no_settings

abbrev pub node_of : Text → Text → List Setting → List (Text × TreeInput) → trees.Node
node_of id kind settings inputs = trees.node (string_bytes id) (string_bytes kind) (settings_of settings) (map named_of inputs)

abbrev pub group_of : Group → trees.Group
group_of g = record {
  name = string_bytes g.name;
  inputs = map socket_of g.inputs.items;
  outputs = map socket_of g.outputs.items;
  nodes = nodes_of g.nodes.items;
  output = map named_of g.output.items;
}

abbrev pub tree_of : Tree → trees.Tree
tree_of x = record {
  format = x.format;
  groups = map group_of x.groups.items;
  nodes = nodes_of x.nodes.items;
  output = option_map input_of x.output;
}
