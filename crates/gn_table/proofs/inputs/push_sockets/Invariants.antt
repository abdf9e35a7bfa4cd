use Rattle.std.proofs.Common.{◌≡◌, ◌++◌, [], drop, map}
use Rattle.gn_tree.specs.Seen.{named_of, socket_of}
use Rattle.gn_rules.specs.Sockets.{one_of}
use Rattle.gn_scopes.specs.Seen.{scope_of}
use Rattle.gn_meaning.specs.Sites.{Way}
use Rattle.gn_meaning.specs.Reads.{reads_of}
use Rattle.gn_table.specs.Reads.{reads_in}
use Rattle.gn_table.proofs.inputs.push_sockets.Given as goal

abbrev pub invariant-loop-socket : goal.invariant-loop-socket
invariant-loop-socket l =
    (way : Way) → reads_in way l.reads.items ++ reads_of (scope_of l.scope) way (map named_of l.written.list.now) (map one_of (map socket_of (drop l.socket-index l.sockets))) []
    ≡ reads_in way l.fn.reads.items ++ reads_of (scope_of l.scope) way (map named_of l.written.list.now) (map one_of (map socket_of l.sockets)) []
