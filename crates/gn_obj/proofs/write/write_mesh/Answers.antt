use Rattle.std.proofs.Common.{◌++◌}
use Rattle.std.specs.List.{enumerate_from, flat_map}
use Rattle.gn_geom.specs.Meshes.{plain_of}
use Rattle.gn_obj.specs.Written.{vertex_line, loose_edge_line, face_line}
use Rattle.gn_obj.proofs.ObjTexts.{obj_parts, lines_of_faces}
use Rattle.gn_obj.proofs.PageLemmas.{cut_fails, cut_before, grown_both, grown_cut, grown_writes}
use Rattle.gn_obj.proofs.write.write_mesh.Goals as goal

pub returns-in_err-write_points : goal.returns-in_err-write_points
returns-in_err-write_points g c =
    let m = plain_of c.args.mesh.now in
    let points = flat_map vertex_line m.points in
    let edges = flat_map (loose_edge_line m) (enumerate_from 0 m.edges) in
    rw (← obj_parts c.args.mesh.now) (cut_fails _ _ _ _ c.from_residual.ensures.0 (cut_before (points ++ edges) (flat_map face_line m.faces) _ _ (cut_before points edges _ _ (rw c.points.ensures at c.in_err-write_points.ensures))))

pub returns-in_err-write_loose_edges : goal.returns-in_err-write_loose_edges
returns-in_err-write_loose_edges g c =
    let m = plain_of c.args.mesh.now in
    let points = flat_map vertex_line m.points in
    let edges = flat_map (loose_edge_line m) (enumerate_from 0 m.edges) in
    rw (← obj_parts c.args.mesh.now) (cut_fails _ _ _ _ c.from_residual-in_err-write_loose_edges.ensures.0 (cut_before (points ++ edges) (flat_map face_line m.faces) _ _ (grown_cut points edges _ _ _ (rw c.points.ensures at c.in_ok-write_points.ensures) c.in_err-write_loose_edges.ensures)))

pub returns : goal.returns
returns g c =
    let m = plain_of c.args.mesh.now in
    let points = flat_map vertex_line m.points in
    let edges = flat_map (loose_edge_line m) (enumerate_from 0 m.edges) in
    let t = c.topology-topology.ensures in
    let last = rw (t.faces, t.corner_points, lines_of_faces c.args.mesh.now.corner_points.items c.args.mesh.now.corner_edges.items c.args.mesh.now.faces.items t.valid.paired) at c.write_faces.ensures in
    rw (← obj_parts c.args.mesh.now) (grown_writes _ (points ++ edges) (flat_map face_line m.faces) _ _ _ (grown_both points edges _ _ _ (rw c.points.ensures at c.in_ok-write_points.ensures) c.in_ok-write_loose_edges.ensures) last)
