use Rattle.std.proofs.Common.{drop}
use Rattle.std.specs.List.{enumerate_from, flat_map}
use Rattle.gn_geom.specs.Meshes.{plain_of}
use Rattle.gn_obj.specs.Written.{loose_edge_line}
use Rattle.gn_obj.specs.Pages.{writer}
use Rattle.gn_obj.proofs.PageLemmas.{IsLeft}
use Rattle.gn_obj.proofs.write.write_loose_edges.Given as goal

abbrev pub invariant-loop-number : goal.invariant-loop-number
invariant-loop-number g l =
    IsLeft (flat_map (loose_edge_line (plain_of l.mesh)) (enumerate_from 0 (plain_of l.mesh).edges)) (flat_map (loose_edge_line (plain_of l.mesh)) (enumerate_from l.number (drop l.number (plain_of l.mesh).edges))) (writer (g.K.Sink.held l.initial.out) (g.K.Sink.faults l.initial.out) l.initial.page) (writer (g.K.Sink.held l.out) (g.K.Sink.faults l.out) l.page)
