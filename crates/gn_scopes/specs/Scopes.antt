-- Scopes of the code as those of the rules.
use Rattle.std.specs.Prelude.{List, [], ◌++◌, map, if◌then◌else◌}
use Rattle.gn_kinds.specs.Seen.{input_of as row_of}
use Rattle.gn_cycle.specs.Graph as cycle
use Rattle.gn_tree.specs.Trees as trees
use Rattle.gn_tree.specs.Seen.{socket_of}
use Rattle.gn_rules.specs.declared.rule.Rule.TheVariants.{Order}
use Rattle.gn_rules.specs.declared.sought.Sought.{Sought}
use Rattle.gn_rules.specs.Sought.{has}
use Rattle.gn_rules.specs.Sockets.{Declared, one_of, input_of_row, items_in}
use Rattle.gn_rules.specs.Scopes.{tree_entries, zone_entries}
use Rattle.gn_rules.specs.Rules.{graph_of}
use Rattle.gn_tree.specs.Nodes.{settings_in}
use Rattle.gn_scopes.specs.declared.scope.Entries.{Entries}
use Rattle.gn_scopes.specs.declared.scope.Entries.TheVariants as e
use Rattle.gn_scopes.specs.declared.scope.Inputs.{Inputs}

abbrev pub entries_of : Entries → List Declared
entries_of e.Tree = tree_entries
entries_of (e.Group sockets) = map one_of (map socket_of sockets.now.list.now)
entries_of (e.Zone items) = zone_entries (map socket_of items.now.list.now)

abbrev pub declared_by : Inputs → List Declared
declared_by x = map (input_of_row x.chosen) (map row_of x.rows.now) ++ map one_of (map socket_of x.others.now.list.now)

abbrev pub items_of_node : trees.Node → List trees.Socket
items_of_node n = items_in (settings_in n)

-- the graph that the rule on order looks at
abbrev pub graph_for : Sought → trees.Nodes → cycle.Graph
graph_for w nodes = if has w Order then graph_of nodes else []
