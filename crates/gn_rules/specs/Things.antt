-- What stands at each pointer of a tree.
use Rattle.std.specs.Prelude.{ℕ, suc, List, [], ◌∷◌, map, codes, Option, Some, None}
use Rattle.gn_kinds.specs.declared.row.SocketKind.TheVariants.{Geometry}
use Rattle.gn_kinds.specs.Row.{Text}
use Rattle.gn_pointers.specs.Pointers.{Step, index, key}
use Rattle.gn_tree.specs.Trees.{Socket, Link, Input, constant, link, links, Named, Node, node, Settings, no_settings, and_setting, and_zone, Nodes, no_nodes, and_node, Group, Tree, of_group}
use Rattle.gn_rules.specs.declared.shape.Shape.{Shape}
use Rattle.gn_rules.specs.Sockets.{Declared, single, one_of, declared, inputs_of}
use Rattle.gn_rules.specs.Scopes.{Scope, tree_scope, group_scope, zone_scope}

-- each thing has with it what its rules look at
pub data Thing : Type 0 where
  the_tree : Tree → Thing
  the_groups : List Group → Thing
  -- a group with its number among these
  a_group : List Group → ℕ → Group → Thing
  the_sockets : List Socket → Thing
  -- a socket: the names of its list, its number and its name
  a_socket : List Text → ℕ → Text → Thing
  -- the tree's own list of nodes, and any other
  all_nodes : Tree → Thing
  the_nodes : Scope → Thing
  a_node : Scope → ℕ → Node → Thing
  the_settings : Scope → Settings → Thing
  a_group_name : Scope → Text → Thing
  -- inputs under the names of sockets, of which these are declared
  the_inputs : Scope → List Declared → List Named → Thing
  -- an input, and what its socket carries, if there is one
  an_input : Scope → Option Shape → Input → Thing
  -- a link in an array of links
  a_link : Scope → Link → Thing

abbrev pub Parts : Type 0
Parts = List (Step × Thing)

abbrev pub socket_names : List Socket → List Text
socket_names xs = map (λ x. x.name) xs

abbrev pub groups_from : List Group → ℕ → List Group → Parts
groups_from all i [] = []
groups_from all i (g ∷ gs) = (index i, a_group all i g) ∷ groups_from all (suc i) gs

abbrev pub sockets_from : List Text → ℕ → List Socket → Parts
sockets_from names i [] = []
sockets_from names i (x ∷ xs) = (index i, a_socket names i x.name) ∷ sockets_from names (suc i) xs

abbrev pub nodes_from : Scope → ℕ → Nodes → Parts
nodes_from s i no_nodes = []
nodes_from s i (and_node n ns) = (index i, a_node s i n) ∷ nodes_from s (suc i) ns

abbrev pub links_from : Scope → ℕ → List Link → Parts
links_from s i [] = []
links_from s i (l ∷ ls) = (index i, a_link s l) ∷ links_from s (suc i) ls

abbrev pub links_in : Scope → Input → Parts
links_in s (constant v) = []
links_in s (link l) = []
links_in s (links ls) = links_from s 0 ls

abbrev pub inputs_under : Scope → List Declared → List Named → Parts
inputs_under s ds [] = []
inputs_under s ds (x ∷ xs) = (key x.name, an_input s (declared ds x.name) x.input) ∷ inputs_under s ds xs

-- what is given out by the names of these sockets
abbrev pub given_out : Scope → List Socket → List Named → Thing
given_out s sockets output = the_inputs s (map one_of sockets) output

-- a setting that names a group, or the three of a zone
abbrev pub settings_under : Scope → Settings → Parts
settings_under s no_settings = []
settings_under s (and_setting (of_group name) rest) = (key (codes "group"), a_group_name s name) ∷ []
settings_under s (and_setting x rest) = settings_under s rest
settings_under s (and_zone items nodes output rest) =
    let inner = zone_scope s items nodes in
    (key (codes "items"), the_sockets items) ∷ (key (codes "nodes"), the_nodes inner) ∷ (key (codes "output"), given_out inner items output) ∷ []

abbrev pub output_under : Scope → Option Input → Parts
output_under s None = []
output_under s (Some x) = (key (codes "output"), an_input s (Some (single Geometry)) x) ∷ []

-- members in the order of their keys, elements by number
abbrev pub parts : Thing → Parts
parts (the_tree t) = (key (codes "groups"), the_groups t.groups) ∷ (key (codes "nodes"), all_nodes t) ∷ output_under (tree_scope t) t.output
parts (the_groups gs) = groups_from gs 0 gs
parts (a_group gs i g) =
    let inner = group_scope gs i g in
    (key (codes "inputs"), the_sockets g.inputs) ∷ (key (codes "nodes"), the_nodes inner) ∷
    (key (codes "output"), given_out inner g.outputs g.output) ∷ (key (codes "outputs"), the_sockets g.outputs) ∷ []
parts (the_sockets xs) = sockets_from (socket_names xs) 0 xs
parts (a_socket names i name) = []
parts (all_nodes t) = nodes_from (tree_scope t) 0 t.nodes
parts (the_nodes s) = nodes_from s 0 s.nodes
parts (a_node s i (node id kind settings inputs)) =
    (key (codes "in"), the_inputs s (inputs_of s.groups (node id kind settings inputs)) inputs) ∷ (key (codes "set"), the_settings s settings) ∷ []
parts (the_settings s settings) = settings_under s settings
parts (a_group_name s name) = []
parts (the_inputs s ds xs) = inputs_under s ds xs
parts (an_input s d x) = links_in s x
parts (a_link s l) = []
