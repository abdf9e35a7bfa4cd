use Rattle.std.proofs.Common.{pos, refl}
use Rattle.std.specs.List.{flat_map}
use Rattle.gn_value.specs.Values.{v3}
use Rattle.gn_obj.specs.Written.{vertex_line}
use Rattle.gn_obj.proofs.PageLemmas.{cut_fails, more_written, more_cut}
use Rattle.gn_obj.proofs.write.write_points.Goals as goal

pub returns-in_err-write_vertex_line : goal.returns-in_err-write_vertex_line
returns-in_err-write_vertex_line g c =
    cut_fails _ _ _ _ c.from_residual.ensures.0 (more_cut (flat_map vertex_line) c.args.points.now c.loop-point.point-index (v3 (pos 0) (pos 0) (pos 0)) _ _ _ _ _ _ c.loop-point-test.true refl c.loop-point.invariant c.in_err-write_vertex_line.ensures)

pub loop-point-preserved : goal.loop-point-preserved
loop-point-preserved g c =
    more_written (flat_map vertex_line) c.args.points.now c.loop-point.point-index (v3 (pos 0) (pos 0) (pos 0)) _ _ _ _ _ _ c.loop-point-test.true refl c.loop-point.invariant c.in_ok-write_vertex_line.ensures
