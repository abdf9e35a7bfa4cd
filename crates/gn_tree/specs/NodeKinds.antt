-- Kinds of nodes with their settings.
use Rattle.std.specs.Prelude.{List}
use Rattle.gn_kinds.specs.Row.{Text}
use Rattle.gn_tree.specs.Trees.{Settings, Group}

-- a kind by its name, with the settings of a node and, where it is a zone, the groups of the tree, by which the nodes of its body are unfolded
pub record Kind : Type 0 where
  pub name : Text
  pub settings : Settings
  pub groups : List Group
