-- The way through the parts of nodes, groups and trees.
use Rattle.std.specs.Prelude.{ℕ, Bool, List, Option, None, map, codes}
use Rattle.gn_pointers.specs.Pointers.{key, Pointer, joined}
use Rattle.gn_tree.specs.Trees.{Node, and_zone, no_settings, Group, Tree}
use Rattle.gn_tree.specs.Seen.{socket_of, nodes_of, named_of}
use Rattle.gn_tree.specs.declared.tree.Zone.{Zone}
use Rattle.gn_rules.specs.Scopes.{Scope, group_scope, tree_scope}
use Rattle.gn_rules.specs.Things.{Thing}
use Rattle.gn_rules.specs.Walk.{first_input, in_settings, in_sockets, in_given_out, first_node, in_output}
use Rattle.gn_rules.specs.Sockets.{inputs_of}
use Rattle.gn_tree.specs.Nodes.{inputs_in}

abbrev pub in_zone : (Thing → Bool) → Scope → Zone → Option Pointer
in_zone bad s zone = in_settings bad s (and_zone (map socket_of zone.items.items) (nodes_of zone.nodes.items) (map named_of zone.output.items) no_settings)

abbrev pub in_inputs_of_node : (Thing → Bool) → Scope → Node → Option Pointer
in_inputs_of_node bad s n = first_input bad s (inputs_of s.groups n) (inputs_in n)

abbrev pub in_results : (Thing → Bool) → Scope → Group → Option Pointer
in_results bad s g = joined (key (codes "output")) (in_given_out bad s g.outputs g.output) (joined (key (codes "outputs")) (in_sockets bad g.outputs) None)

abbrev pub in_parts : (Thing → Bool) → List Group → ℕ → Group → Option Pointer
in_parts bad gs i g =
    joined (key (codes "inputs")) (in_sockets bad g.inputs) (joined (key (codes "nodes")) (first_node bad (group_scope gs i g) 0 g.nodes) (in_results bad (group_scope gs i g) g))

abbrev pub in_body : (Thing → Bool) → Tree → Option Pointer
in_body bad t = joined (key (codes "nodes")) (first_node bad (tree_scope t) 0 t.nodes) (in_output bad (tree_scope t) t.output)
