use Rattle.std.proofs.Common.{◌≡◌, ◌++◌, drop, map}
use Rattle.gn_tree.specs.Seen.{named_of}
use Rattle.gn_rules.specs.Rules.{links_of, numbers_of}
use Rattle.gn_scopes.proofs.edges.numbers_in.Given as goal

abbrev pub invariant-loop-input : goal.invariant-loop-input
invariant-loop-input l = l.numbers.items ++ numbers_of l.names (links_of (map named_of (drop l.input-index l.inputs))) ≡ numbers_of l.names (links_of (map named_of l.inputs))
