use Rattle.std.proofs.Common.{◌≡◌, ◌++◌, drop, map}
use Rattle.gn_tree.specs.Seen.{named_of}
use Rattle.gn_node_kind.proofs.copy.inputs.Given as goal

abbrev pub invariant-loop-name : goal.invariant-loop-name
invariant-loop-name l = map named_of l.copy.items ++ map named_of (drop l.name-index l.list) ≡ map named_of l.list
