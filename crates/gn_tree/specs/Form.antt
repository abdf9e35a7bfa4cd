-- Trees of their form: each name is one, each kind has a row in the table of kinds, and what stands in
-- a node is what the row of its kind lets stand there.
use Rattle.std.specs.Prelude.{◌≡◌, Bool, true, false, not, ◌&&◌, ◌||◌, ◌==◌, List, [], ◌∷◌, is_some}
use Rattle.std.specs.Option.{option_map_or}
use Rattle.std.specs.List.{list_all, filter}
use Rattle.std.proofs.Props.{props}
use Rattle.gn_value.specs.declared.value.Value.{Value}
use Rattle.gn_value.specs.declared.value.Value.TheVariants as v
use Rattle.gn_value.specs.declared.value.ValueKind.{ValueKind}
use Rattle.gn_value.specs.declared.value.ValueKind.TheVariants.{Truth, Int, Fixed, Vector}
use Rattle.gn_kinds.specs.Names.{kind_name, kind_named, place_name, place_named}
use Rattle.gn_kinds.specs.Row as row
use Rattle.gn_kinds.specs.Row.{KindRow, has_input}
use Rattle.gn_kinds.specs.Table.{row_of_kind}
use Rattle.gn_kinds.specs.Text.{is_id, is_column_name, is_file_name, is_word}
use Rattle.gn_tree.specs.Trees.{Link, Input, constant, link, links, Named, Socket, Setting, of_kind, op, place, clamp, a_name, file, value, of_group, Node, node, Settings, no_settings, and_setting, and_zone, Nodes, no_nodes, and_node, Group, Tree}
use Rattle.gn_tree.specs.Rising.{NamesRiseInTree, NamesRiseInTree-prop}

-- ---- sockets and inputs

abbrev pub socket_fits : Socket → Bool
socket_fits s = is_id s.name

abbrev pub link_fits : Link → Bool
link_fits l = is_id l.from && is_id l.socket

abbrev pub input_fits : Input → Bool
input_fits (constant x) = true
input_fits (link l) = link_fits l
input_fits (links ls) = list_all link_fits ls

-- the inputs of a node; where its row is open, which sockets there are is not a question of form
abbrev pub inputs_fit : KindRow → List Named → Bool
inputs_fit row xs = list_all (λ x. (row.open_ended || has_input row.inputs x.name) && input_fits x.input) xs

-- what a zone or a group gives out
abbrev pub output_fits : List Named → Bool
output_fits xs = list_all (λ x. is_id x.name && input_fits x.input) xs

-- ---- settings

abbrev pub is_of_kind : ValueKind → Value → Bool
is_of_kind Truth (v.Truth b) = true
is_of_kind Int (v.Int n) = true
is_of_kind Fixed (v.Fixed x) = true
is_of_kind Vector (v.Vector w) = true
is_of_kind _ _ = false

-- the setting is the one of the row, and its value is in the row's set
abbrev pub setting_fits : row.Setting → Setting → Bool
setting_fits (row.type_in kinds) (of_kind k) = is_some (kind_named kinds (kind_name k))
setting_fits (row.op_in names) (op name) = is_word names name
setting_fits (row.place_in places) (place p) = is_some (place_named places (place_name p))
setting_fits row.a_clamp (clamp on) = true
setting_fits row.a_name (a_name name) = is_column_name name
setting_fits row.a_file (file name) = is_file_name name
setting_fits (row.value_of kind) (value x) = is_of_kind kind x
setting_fits row.group_name (of_group name) = is_id name
setting_fits _ _ = false

abbrev pub stands_with_items : row.Setting → Bool
stands_with_items row.zone_nodes = true
stands_with_items row.zone_output = true
stands_with_items _ = false

-- the settings of a row as those of a tree: the three of a zone are one
abbrev pub kept : List row.Setting → List row.Setting
kept ss = filter (λ s. not (stands_with_items s)) ss

-- ---- nodes

abbrev mutual
  -- the kind is one of the table, and the settings and the inputs are those of its row
  pub node_fits : Node → Bool
  node_fits (node id kind settings inputs) = is_id id && option_map_or (λ row. settings_fit (kept row.settings) settings && inputs_fit row inputs) (row_of_kind kind) false

  -- each setting of the row, in the order of the row, and no other
  pub settings_fit : List row.Setting → Settings → Bool
  settings_fit [] no_settings = true
  settings_fit (s ∷ ss) (and_setting x rest) = setting_fits s x && settings_fit ss rest
  settings_fit (row.zone_items ∷ ss) (and_zone items nodes output rest) = list_all socket_fits items && nodes_fit nodes && output_fits output && settings_fit ss rest
  settings_fit _ _ = false

  pub nodes_fit : Nodes → Bool
  nodes_fit no_nodes = true
  nodes_fit (and_node x xs) = node_fits x && nodes_fit xs

-- ---- groups and trees

abbrev pub group_fits : Group → Bool
group_fits g = is_id g.name && list_all socket_fits g.inputs && list_all socket_fits g.outputs && nodes_fit g.nodes && output_fits g.output

abbrev pub tree_fits : Tree → Bool
tree_fits t = (t.format == 1) && list_all group_fits t.groups && nodes_fit t.nodes && option_map_or input_fits t.output true

-- all that stands in the tree is of its form, and names rise by their bytes
abbrev pub IsOfForm : Tree → Type 0
IsOfForm t = (tree_fits t ≡ true) × NamesRiseInTree t

-- a tree is of its form in one way alone
pub IsOfForm-prop : (t : Tree) → IsProp (IsOfForm t)
IsOfForm-prop t = Prim.hlevel (props, NamesRiseInTree-prop)
