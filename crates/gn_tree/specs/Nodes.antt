-- The parts of a node.
use Rattle.std.specs.Prelude.{List}
use Rattle.gn_kinds.specs.Row.{Text}
use Rattle.gn_tree.specs.Trees.{Named, Node, node, Settings}

abbrev pub id_in : Node → Text
id_in (node id _ _ _) = id

abbrev pub kind_in : Node → Text
kind_in (node _ kind _ _) = kind

abbrev pub settings_in : Node → Settings
settings_in (node _ _ set _) = set

abbrev pub inputs_in : Node → List Named
inputs_in (node _ _ _ inputs) = inputs
