use Rattle.std.proofs.Common.{◌≡◌, ◌++◌, map, drop}
use Rattle.gn_plain.specs.Topology.{edge_of}
use Rattle.gn_plain.specs.Interpolation.{along_edges, turned}
use Rattle.gn_interp.proofs.takings.at_vertices.Given as goal

-- the pairs so far, and those of the edges that are left
abbrev pub invariant-loop-edge : goal.invariant-loop-edge
invariant-loop-edge l = l.takings.items ++ turned (along_edges l.edge (map edge_of (drop l.edge l.edges))) ≡ turned (along_edges 0 (map edge_of l.edges))
