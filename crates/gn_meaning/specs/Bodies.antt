-- The lists of nodes of a tree, and the ways to them.
use Rattle.std.specs.Prelude.{ℕ, List, [], ◌∷◌, codes, Option, Some, None, slice_get, option_map, option_and_then, if◌then◌else◌}
use Rattle.gn_kinds.specs.declared.row.SocketKind.TheVariants.{Geometry}
use Rattle.gn_kinds.specs.Row.{Text}
use Rattle.gn_names.specs.First.{first_of}
use Rattle.gn_tree.specs.Trees.{Input, Named, Socket, Node, node, Settings, no_settings, and_setting, and_zone, Nodes, Group, Tree, of_group}
use Rattle.gn_tree.specs.NodeKinds.{Kind}
use Rattle.gn_rules.specs.Sockets.{group_names, node_at, is_zone}
use Rattle.gn_rules.specs.Scopes.{Scope, tree_scope, group_scope, zone_scope}
use Rattle.gn_meaning.specs.Sites.{Way, the_tree, into}

-- a list of nodes, with what it gives out by the names of these sockets
pub record Body : Type 0 where
  pub scope : Scope
  pub sockets : List Socket
  pub output : List Named

abbrev pub output_of : Option Input → List Named
output_of None = []
output_of (Some x) = record { name = codes "geometry"; input = x } ∷ []

abbrev pub tree_body : Tree → Body
tree_body t = record { scope = tree_scope t; sockets = record { name = codes "geometry"; kind = Geometry } ∷ []; output = output_of t.output }

abbrev pub group_body : List Group → ℕ → Group → Body
group_body gs i g = record { scope = group_scope gs i g; sockets = g.outputs; output = g.output }

abbrev pub body_named : List Group → Text → Option Body
body_named gs name = option_and_then (λ i. option_map (group_body gs i) (slice_get gs i)) (first_of (group_names gs) name)

abbrev pub zone_body : Scope → Text → List Socket → Nodes → List Named → Body
zone_body s kind items nodes output = record { scope = zone_scope s items nodes; sockets = items; output = output }

-- the body of a group node or a zone of some kind, by its settings; no other node has one
abbrev pub body_in : Scope → Text → Settings → Option Body
body_in s kind no_settings = None
body_in s kind (and_setting (of_group name) rest) = body_named s.groups name
body_in s kind (and_setting x rest) = body_in s kind rest
body_in s kind (and_zone items nodes output rest) = Some (zone_body s kind items nodes output)

abbrev pub body_of : Scope → Node → Option Body
body_of s (node id kind settings inputs) = body_in s kind settings

-- the list that a way leads to
abbrev pub body_at : Tree → Way → Option Body
body_at t the_tree = Some (tree_body t)
body_at t (into way step) =
    option_and_then (λ b. option_and_then (body_of b.scope) (node_at b.scope.nodes step.node)) (body_at t way)

-- ---- kinds

-- the kind of a node with its settings, and of a zone with the groups of the tree
abbrev pub kind_in : Scope → Node → Kind
kind_in s (node id kind settings inputs) =
    if is_zone settings then record { name = kind; settings = settings; groups = s.groups }
    else record { name = kind; settings = settings; groups = [] }
