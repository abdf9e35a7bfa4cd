use Rattle.std.proofs.Common.{drop}
use Rattle.std.specs.List.{flat_map}
use Rattle.gn_obj.specs.Written.{vertex_word}
use Rattle.gn_obj.specs.Pages.{writer}
use Rattle.gn_obj.proofs.PageLemmas.{IsLeft}
use Rattle.gn_obj.proofs.write.write_vertices.Given as goal

abbrev pub invariant-loop-vertex : goal.invariant-loop-vertex
invariant-loop-vertex g l =
    IsLeft (flat_map vertex_word l.vertices) (flat_map vertex_word (drop l.vertex-index l.vertices)) (writer (g.K.Sink.held l.initial.out) (g.K.Sink.faults l.initial.out) l.initial.page) (writer (g.K.Sink.held l.out) (g.K.Sink.faults l.out) l.page)
