use Rattle.std.proofs.Common.{◌∷◌, drop, length}
use Rattle.std.specs.List.{flat_map}
use Rattle.gn_plain.specs.Topology.{RiseTo, parts_between}
use Rattle.gn_obj.specs.Texts.{face_text}
use Rattle.gn_obj.specs.Pages.{writer}
use Rattle.gn_obj.proofs.PageLemmas.{IsLeft}
use Rattle.gn_obj.proofs.write.write_faces.Given as goal

abbrev pub invariant-loop-end : goal.invariant-loop-end
invariant-loop-end g l = record {
  rise : RiseTo (length l.corner_points) l.begin (drop l.end-index l.ends);
  left : IsLeft (flat_map face_text (parts_between l.offsets l.corner_points)) (flat_map face_text (parts_between (l.begin ∷ drop l.end-index l.ends) l.corner_points)) (writer (g.K.Sink.held l.initial.out) (g.K.Sink.faults l.initial.out) l.initial.page) (writer (g.K.Sink.held l.out) (g.K.Sink.faults l.out) l.page);
}
