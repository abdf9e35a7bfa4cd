use Rattle.std.proofs.Common.{◌≡◌, ◌++◌, map, drop}
use Rattle.gn_plain.specs.Topology.{edge_of}
use Rattle.gn_plain.specs.Interpolation.{along_edges}
use Rattle.gn_interp.proofs.takings.along_edges.Given as goal

-- the pairs so far, and those of the edges that are left
abbrev pub invariant-loop-edge : goal.invariant-loop-edge
invariant-loop-edge l = l.takings.items ++ along_edges l.edge (map edge_of (drop l.edge l.edges)) ≡ along_edges 0 (map edge_of l.edges)
