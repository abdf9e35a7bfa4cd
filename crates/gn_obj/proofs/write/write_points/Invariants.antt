use Rattle.std.proofs.Common.{drop}
use Rattle.std.specs.List.{flat_map}
use Rattle.gn_obj.specs.Written.{vertex_line}
use Rattle.gn_obj.specs.Pages.{writer}
use Rattle.gn_obj.proofs.PageLemmas.{IsLeft}
use Rattle.gn_obj.proofs.write.write_points.Given as goal

abbrev pub invariant-loop-point : goal.invariant-loop-point
invariant-loop-point g l =
    IsLeft (flat_map vertex_line l.points) (flat_map vertex_line (drop l.point-index l.points)) (writer (g.K.Sink.held l.initial.out) (g.K.Sink.faults l.initial.out) l.initial.page) (writer (g.K.Sink.held l.out) (g.K.Sink.faults l.out) l.page)
