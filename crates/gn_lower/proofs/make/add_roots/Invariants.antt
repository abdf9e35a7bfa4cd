use Rattle.std.proofs.Common.{◌≡◌, ◌++◌}
use Rattle.gn_lower.proofs.make.add_roots.Given as goal

abbrev pub invariant-loop-link : goal.invariant-loop-link
invariant-loop-link l = l.graph ≡ record l.initial.graph { roots = l.initial.graph.roots ++ l.yielded }
