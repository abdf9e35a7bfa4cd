use Rattle.std.proofs.Common.{map}
use Rattle.std.specs.List.{enumerate_from, flat_map}
use Rattle.gn_plain.specs.Topology.{edge_of}
use Rattle.gn_geom.specs.Meshes.{plain_of}
use Rattle.gn_obj.specs.Written.{loose_edge_line}
use Rattle.gn_obj.proofs.ObjTexts.{edge_within, next_edge}
use Rattle.gn_obj.proofs.PageLemmas.{cut_fails, all_left, more_written, more_cut}
use Rattle.gn_obj.proofs.write.write_loose_edges.Goals as goal

pub loop-number-init : goal.loop-number-init
loop-number-init g c = all_left _ _

pub returns-in_err-write_loose_edge : goal.returns-in_err-write_loose_edge
returns-in_err-write_loose_edge g c =
    let line = loose_edge_line (plain_of c.args.mesh.now) in
    let items = c.args.mesh.now.edges.items in
    let k = c.loop-number.number in
    let same = c.topology.ensures.edges in
    let here = c.loop-number-test.true in
    cut_fails _ _ _ _ c.from_residual.ensures.0 (more_cut (λ es. flat_map line (enumerate_from k es)) (map edge_of items) k (edge_of (0, 0)) _ _ _ _ _ _ (edge_within items _ k same here) (next_edge line items _ k (0, 0) same here) c.loop-number.invariant c.in_err-write_loose_edge.ensures)

pub loop-number-preserved : goal.loop-number-preserved
loop-number-preserved g c =
    let line = loose_edge_line (plain_of c.args.mesh.now) in
    let items = c.args.mesh.now.edges.items in
    let k = c.loop-number.number in
    let same = c.topology.ensures.edges in
    let here = c.loop-number-test.true in
    more_written (λ es. flat_map line (enumerate_from k es)) (map edge_of items) k (edge_of (0, 0)) _ _ _ _ _ _ (edge_within items _ k same here) (next_edge line items _ k (0, 0) same here) c.loop-number.invariant c.in_ok-write_loose_edge.ensures
