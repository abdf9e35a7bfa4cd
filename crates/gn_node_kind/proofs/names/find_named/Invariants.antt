use Rattle.std.proofs.Common.{◌≡◌, drop, map}
use Rattle.gn_node_kind.specs.Named.{named_in}
use Rattle.gn_node_kind.proofs.names.find_named.Given as goal

abbrev pub invariant-loop-word : goal.invariant-loop-word
invariant-loop-word g l = named_in (map (λ x. (x.0.now, x.1)) (drop l.word-index l.list)) l.fn.name ≡ named_in (map (λ x. (x.0.now, x.1)) l.list) l.fn.name
