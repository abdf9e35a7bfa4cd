-- Trees whose settings stand in nodes of their kinds, as they do in each tree that is of its form.
use Rattle.std.specs.Prelude.{◌≡◌, List, [], ◌∷◌, codes}
use Rattle.gn_kinds.specs.Row.{Text}
use Rattle.gn_tree.specs.Trees.{Node, node, Settings, no_settings, and_setting, and_zone, Nodes, no_nodes, and_node, Group, Tree, of_group}

-- a group is named in group nodes alone, and a body stands in repeats alone
abbrev mutual
  pub NodeHasForm : Node → Type 0
  NodeHasForm (node id kind settings inputs) = SettingsHaveForm kind settings

  pub SettingsHaveForm : Text → Settings → Type 0
  SettingsHaveForm kind no_settings = Unit {0}
  SettingsHaveForm kind (and_setting (of_group name) rest) = (kind ≡ codes "group") × SettingsHaveForm kind rest
  SettingsHaveForm kind (and_setting x rest) = SettingsHaveForm kind rest
  SettingsHaveForm kind (and_zone items nodes output rest) = (kind ≡ codes "repeat") × NodesHaveForm nodes × SettingsHaveForm kind rest

  pub NodesHaveForm : Nodes → Type 0
  NodesHaveForm no_nodes = Unit {0}
  NodesHaveForm (and_node x xs) = NodeHasForm x × NodesHaveForm xs

abbrev pub GroupsHaveForm : List Group → Type 0
GroupsHaveForm [] = Unit {0}
GroupsHaveForm (g ∷ gs) = NodesHaveForm g.nodes × GroupsHaveForm gs

abbrev pub HasForm : Tree → Type 0
HasForm t = GroupsHaveForm t.groups × NodesHaveForm t.nodes
