use Rattle.std.proofs.Common.{◌≡◌, [], ◌∷◌, ◌++◌, map, drop}
use Rattle.std.specs.Prelude.{◌↔◌}
use Rattle.gn_plain.specs.Edges.{edges_around}
use Rattle.gn_plain.specs.Topology.{edge_at}
use Rattle.gn_geom.proofs.Joins.{Join}
use Rattle.gn_geom.proofs.checks.are_joined.Given as goal

abbrev pub invariant-loop-k : goal.invariant-loop-k
invariant-loop-k l =
    Join l.edges (drop l.k l.corner_edges) (l.from ∷ drop l.k (l.others ++ l.first ∷ [])) ↔ (map (edge_at l.edges) l.corner_edges ≡ edges_around l.vertices)
