use Rattle.std.proofs.Common.{◌≡◌, ◌++◌, drop, map}
use Rattle.gn_tree.specs.Seen.{socket_of}
use Rattle.gn_node_kind.proofs.copy.sockets.Given as goal

abbrev pub invariant-loop-socket : goal.invariant-loop-socket
invariant-loop-socket l = map socket_of l.copy.items ++ map socket_of (drop l.socket-index l.list) ≡ map socket_of l.list
