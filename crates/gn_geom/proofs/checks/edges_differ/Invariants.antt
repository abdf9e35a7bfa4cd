use Rattle.std.proofs.Common.{◌≡◌, take}
use Rattle.std.specs.List.{IsDistinct}
use Rattle.gn_edges.specs.Kept.{is_pair}
use Rattle.gn_geom.proofs.checks.edges_differ.Given as goal

abbrev pub invariant-loop-edge : goal.invariant-loop-edge
invariant-loop-edge l = (l.seen ≡ take l.edge-index l.edges) × IsDistinct is_pair l.seen
