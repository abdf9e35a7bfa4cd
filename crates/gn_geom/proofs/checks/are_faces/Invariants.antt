use Rattle.std.proofs.Common.{◌≡◌, ◌≤◌, ◌∷◌, drop}
use Rattle.std.specs.List.{All}
use Rattle.std.specs.Prelude.{◌↔◌, length}
use Rattle.gn_plain.specs.Topology.{RiseTo}
use Rattle.gn_geom.specs.Faces.{AreFaces}
use Rattle.gn_geom.proofs.checks.are_faces.Given as goal

abbrev pub invariant-loop-end : goal.invariant-loop-end
invariant-loop-end l = record {
  rise : RiseTo (length l.corner_points) l.begin (drop l.end-index l.ends);
  number : l.number ≡ l.end-index;
  marked : All (λ m. m ≤ l.number) l.marks;
  faces : AreFaces l.edges (l.begin ∷ drop l.end-index l.ends) l.corner_points l.corner_edges ↔ AreFaces l.edges l.offsets l.corner_points l.corner_edges;
}
