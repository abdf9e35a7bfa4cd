use Rattle.std.proofs.Common.{◌≡◌, drop, map}
use Rattle.gn_tree.specs.Seen.{socket_of}
use Rattle.gn_rules.specs.Things.{socket_names}
use Rattle.gn_rules.specs.Walk as walk
use Rattle.gn_rules.specs.Walk.{breaks}
use Rattle.gn_check.proofs.walk.in_sockets.Given as goal

abbrev pub invariant-loop-socket : goal.invariant-loop-socket
invariant-loop-socket l =
    (l.number ≡ l.socket-index)
    × (walk.first_socket (breaks l.sought) (socket_names (map socket_of l.sockets.list.now)) l.socket-index (map socket_of (drop l.socket-index l.sockets.list.now))
    ≡ walk.first_socket (breaks l.sought) (socket_names (map socket_of l.sockets.list.now)) 0 (map socket_of l.sockets.list.now))
