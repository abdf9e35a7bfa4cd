use Rattle.std.proofs.Common.{◌∙◌, ap, map, fold}
use Rattle.std.specs.List.{flat_map}
use Rattle.gn_plain.specs.Edges.{edges_around, with_edge}
use Rattle.gn_plain.specs.Topology.{edge_of}
use Rattle.gn_plain.proofs.EdgeLemmas.{first_seen-fold}
use Rattle.gn_geom.proofs.edges.edges_of.Goals as goal

pub loop-face-init : goal.loop-face-init
loop-face-init c =
    let all = flat_map (λ f. edges_around f.items) c.args.face_points.now in
    ap (λ pairs. fold with_edge (map edge_of pairs) all) c.new-edges.ensures ∙ first_seen-fold all
