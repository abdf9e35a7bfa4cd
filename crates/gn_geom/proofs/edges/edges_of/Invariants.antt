use Rattle.std.proofs.Common.{◌≡◌, fold, drop}
use Rattle.std.specs.List.{flat_map}
use Rattle.gn_plain.specs.Edges.{edges_around, first_seen, with_edge}
use Rattle.gn_edges.specs.Added.{edges_in}
use Rattle.gn_geom.proofs.edges.edges_of.Given as goal

abbrev pub invariant-loop-face : goal.invariant-loop-face
invariant-loop-face l =
    fold with_edge (edges_in l.edges) (flat_map (λ f. edges_around f.items) (drop l.face-index l.face_points)) ≡ first_seen (flat_map (λ f. edges_around f.items) l.face_points)
