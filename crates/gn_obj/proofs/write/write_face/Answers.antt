use Rattle.std.proofs.Common.{[], ◌∷◌, ◌++◌}
use Rattle.std.specs.List.{flat_map}
use Rattle.gn_obj.specs.Written.{vertex_word, line_feed}
use Rattle.gn_obj.proofs.PageLemmas.{cut_fails, cut_before, grown_both, grown_cut, grown_writes}
use Rattle.gn_obj.proofs.write.write_face.Goals as goal

pub returns-in_err-write_text : goal.returns-in_err-write_text
returns-in_err-write_text g c =
    cut_fails _ _ _ _ c.from_residual.ensures.0 (cut_before (102 ∷ []) (flat_map vertex_word c.args.vertices.now ++ line_feed) _ _ c.in_err-write_text.ensures)

pub returns-in_err-write_vertices : goal.returns-in_err-write_vertices
returns-in_err-write_vertices g c =
    let words = flat_map vertex_word c.args.vertices.now in
    cut_fails _ _ _ _ c.from_residual-in_err-write_vertices.ensures.0 (cut_before ((102 ∷ []) ++ words) line_feed _ _ (grown_cut (102 ∷ []) words _ _ _ c.in_ok-write_text.ensures c.in_err-write_vertices.ensures))

pub returns : goal.returns
returns g c =
    let words = flat_map vertex_word c.args.vertices.now in
    grown_writes _ ((102 ∷ []) ++ words) line_feed _ _ _ (grown_both (102 ∷ []) words _ _ _ c.in_ok-write_text.ensures c.in_ok-write_vertices.ensures) c.write_text-2.ensures
