-- That the settings stand in nodes of their kinds holds in one way at most.
use Rattle.std.specs.Prelude.{List, [], ◌∷◌, codes}
use Rattle.std.specs.Coded.{Coded, Coded-set, coded_ℕ, coded_list, Unit-prop, ×_prop}
use Rattle.gn_kinds.specs.Row.{Text}
use Rattle.gn_tree.specs.Trees.{Node, node, Settings, no_settings, and_setting, and_zone, Nodes, no_nodes, and_node, Group, Tree, of_group}
use Rattle.gn_meaning.specs.Forms.{NodeHasForm, SettingsHaveForm, NodesHaveForm, GroupsHaveForm, HasForm}

abbrev text_code : Coded Text
text_code = coded_list coded_ℕ

mutual
  node_form_prop : (x : Node) → IsProp (NodeHasForm x)
  node_form_prop (node id kind settings inputs) = settings_form_prop kind settings

  settings_form_prop : (kind : Text) (set : Settings) → IsProp (SettingsHaveForm kind set)
  settings_form_prop kind no_settings = Unit-prop
  settings_form_prop kind (and_setting (of_group name) rest) = ×_prop (Coded-set text_code kind (codes "group")) (settings_form_prop kind rest)
  settings_form_prop kind (and_setting x rest) = settings_form_prop kind rest
  settings_form_prop kind (and_zone items nodes output rest) =
      λ a b i. (Coded-set text_code kind (codes "repeat") a.0 b.0 i, nodes_form_prop nodes a.1 b.1 i, settings_form_prop kind rest a.2 b.2 i)

  nodes_form_prop : (xs : Nodes) → IsProp (NodesHaveForm xs)
  nodes_form_prop no_nodes = Unit-prop
  nodes_form_prop (and_node x xs) = ×_prop (node_form_prop x) (nodes_form_prop xs)

groups_form_prop : (gs : List Group) → IsProp (GroupsHaveForm gs)
groups_form_prop [] = Unit-prop
groups_form_prop (g ∷ gs) = ×_prop (nodes_form_prop g.nodes) (groups_form_prop gs)

pub form_prop : (t : Tree) → IsProp (HasForm t)
form_prop t = ×_prop (groups_form_prop t.groups) (nodes_form_prop t.nodes)
