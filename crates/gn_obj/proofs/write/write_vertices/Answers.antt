use Rattle.std.proofs.Common.{refl}
use Rattle.std.specs.List.{flat_map}
use Rattle.gn_obj.specs.Written.{vertex_word}
use Rattle.gn_obj.proofs.PageLemmas.{cut_fails, more_written, more_cut}
use Rattle.gn_obj.proofs.write.write_vertices.Goals as goal

pub returns-in_err-write_vertex : goal.returns-in_err-write_vertex
returns-in_err-write_vertex g c =
    cut_fails _ _ _ _ c.from_residual.ensures.0 (more_cut (flat_map vertex_word) c.args.vertices.now c.loop-vertex.vertex-index 0 _ _ _ _ _ _ c.loop-vertex-test.true refl c.loop-vertex.invariant c.in_err-write_vertex.ensures)

pub loop-vertex-preserved : goal.loop-vertex-preserved
loop-vertex-preserved g c =
    more_written (flat_map vertex_word) c.args.vertices.now c.loop-vertex.vertex-index 0 _ _ _ _ _ _ c.loop-vertex-test.true refl c.loop-vertex.invariant c.in_ok-write_vertex.ensures
