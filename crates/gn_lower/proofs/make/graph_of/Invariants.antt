use Rattle.std.proofs.Common.{◌≡◌, []}
use Rattle.gn_lower.proofs.make.graph_of.Given as goal

abbrev pub invariant-loop-node : goal.invariant-loop-node
invariant-loop-node l = l.graph ≡ record { nodes = l.yielded; roots = []; constants = l.constants }
