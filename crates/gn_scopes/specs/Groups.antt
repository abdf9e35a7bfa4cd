-- What is kept of the groups of a tree.
use Rattle.std.specs.Prelude.{List, map}
use Rattle.gn_tree.specs.Trees as trees
use Rattle.gn_tree.specs.Seen.{socket_of}
use Rattle.gn_scopes.specs.declared.sockets.Sockets.{Sockets}
use Rattle.gn_scopes.specs.declared.groups.Side.{Side}
use Rattle.gn_scopes.specs.declared.groups.Side.TheVariants as side

abbrev pub sockets_in : Sockets → List trees.Socket
sockets_in x = map socket_of x.list.now

abbrev pub lists_in : List Sockets → List (List trees.Socket)
lists_in xs = map (λ x. map socket_of x.list.now) xs

abbrev pub side_of : Side → trees.Group → List trees.Socket
side_of side.Inputs g = g.inputs
side_of side.Outputs g = g.outputs
