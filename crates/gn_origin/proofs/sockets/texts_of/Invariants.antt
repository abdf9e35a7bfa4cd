use Rattle.std.proofs.Common.{◌≡◌, ◌++◌, drop, map}
use Rattle.gn_tree.specs.Seen.{socket_of}
use Rattle.gn_rules.specs.Things.{socket_names}
use Rattle.gn_origin.proofs.sockets.texts_of.Given as goal

abbrev pub invariant-loop-socket : goal.invariant-loop-socket
invariant-loop-socket l = map (λ text. text.now) l.texts.items ++ socket_names (map socket_of (drop l.socket-index l.list)) ≡ socket_names (map socket_of l.list)
