-- The groups of the code as those of the rules, and a scope as one of the rules.
use Rattle.std.specs.Prelude.{List, map}
use Rattle.gn_tree.specs.Trees as trees
use Rattle.gn_tree.specs.Seen.{group_of, nodes_of}
use Rattle.gn_rules.specs.Scopes as scopes
use Rattle.gn_scopes.specs.Scopes.{entries_of}
use Rattle.gn_scopes.specs.declared.groups.Groups.{Groups}
use Rattle.gn_scopes.specs.declared.scope.Scope.{Scope}

abbrev pub groups_in : Groups → List trees.Group
groups_in x = map group_of x.list.now

abbrev pub scope_of : Scope → scopes.Scope
scope_of s = record { nodes = nodes_of s.nodes.now.items; entries = entries_of s.entries; groups = groups_in s.groups.now; above = s.above }
