use Rattle.std.proofs.Common.{◌≡◌, length, rules}
use Rattle.gn_pieces.proofs.Found.{on_ok}
use Rattle.gn_pieces.proofs.JoinedLists.{appended_lists, offsets_few}
use Rattle.gn_pieces.proofs.shapes.Lists.append.Goals as goal

pub append_numbers-requires-3 : goal.append_numbers-requires-3
append_numbers-requires-3 c =
    let at : c.len-corners.result ≡ length c.args.self.now.corner_points.items = search rules in
    offsets_few c.args.mesh.now.shape c.topology-topology.result.faces.now c.len-corners.result (length c.args.self.now.corner_points.items) c.topology-topology.ensures.valid c.topology-topology.ensures.faces at c.requires.corners

pub returns-clause-topology : goal.returns-clause-topology
returns-clause-topology c =
    let old = c.args.self.now in
    let t = c.topology-topology.result in
    let is = c.topology-topology.ensures in
    let at_v : c.len-vertices.result ≡ length c.args.self.now.points.items = search rules in
    let at_k : c.len-edges.result ≡ length c.args.self.now.edges.items = search rules in
    let at_n : c.len-corners.result ≡ length c.args.self.now.corner_points.items = search rules in
    on_ok c.append_numbers-3.result _ _ c.append_numbers-3.ensures (λ faces.
    appended_lists old.points.items c.append_points.new.into.items c.points.result.now old.edges.items c.append_ends.new.into.items t.edges.now old.faces.items c.append_numbers-3.new.into.items t.faces.now
    old.corner_points.items c.append_numbers.new.into.items t.corner_points.now old.corner_edges.items c.append_numbers-2.new.into.items t.corner_edges.now
    c.len-vertices.result c.len-edges.result c.len-corners.result c.args.placing.now c.args.mesh.now.shape
    c.points.ensures is.edges is.faces is.corner_points is.corner_edges at_v at_k at_n
    c.in_ok-append_points.ensures c.in_ok-append_ends.ensures c.in_ok-append_numbers.ensures c.in_ok-append_numbers-2.ensures faces)
