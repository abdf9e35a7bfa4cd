use Rattle.std.proofs.Common.{◌<◌, length, refl, arith}
use Rattle.gn_interp.specs.Takings.{topology_of}
use Rattle.gn_geometry_rows.specs.Flips.{corner_order}
use Rattle.gn_flip.specs.Turned.{edge_order, is_chosen, turned_edges, turned_vertices}
use Rattle.gn_flip.proofs.Steps.{next, none_yet, one_more_face, all_faces}
use Rattle.gn_flip.proofs.Orders.{from_zero}
use Rattle.gn_flip.proofs.order.find_orders.Goals as goal

pub loop-face-init : goal.loop-face-init
loop-face-init c =
    let t = topology_of c.args.topology.now in
    let chosen = is_chosen c.args.selected.now in
    record {
      rise = (from_zero (length t.corner_points) t.faces c.requires.valid.offsets).1;
      corners = none_yet t c.requires.valid c.args.selected.now c.requires.selected (λ j r. turned_vertices (chosen j) r) (corner_order chosen) (λ j first. refl) (λ j first face faces. refl) c.in_ok-corners.corners.items c.in_ok-corners.ensures.items;
      edges = none_yet t c.requires.valid c.args.selected.now c.requires.selected (λ j r. turned_edges (chosen j) r) (edge_order chosen) (λ j first. refl) (λ j first face faces. refl) c.in_ok-edges.edges.items c.in_ok-edges.ensures.items;
    }

pub add_corners-requires : goal.add_corners-requires
add_corners-requires c =
    let t = topology_of c.args.topology.now in
    let wide = next t c.requires.valid c.args.selected.now c.requires.selected c.loop-face.face c.loop-face.first c.loop-face-test.true c.loop-face.invariant.rise in
    omega (arith, wide.0)

pub add_edges-requires : goal.add_edges-requires
add_edges-requires c =
    let t = topology_of c.args.topology.now in
    let wide = next t c.requires.valid c.args.selected.now c.requires.selected c.loop-face.face c.loop-face.first c.loop-face-test.true c.loop-face.invariant.rise in
    omega (arith, wide.0)

pub loop-face-preserved : goal.loop-face-preserved
loop-face-preserved c =
    let t = topology_of c.args.topology.now in
    let chosen = is_chosen c.args.selected.now in
    let i = c.loop-face.face in
    let first = c.loop-face.first in
    let within : i < length c.args.selected.now = c.loop-face-test.true in
    let rise = c.loop-face.invariant.rise in
    let following = next t c.requires.valid c.args.selected.now c.requires.selected i first within rise in
    record {
      rise = following.2;
      corners = one_more_face t c.requires.valid c.args.selected.now c.requires.selected (λ j r. turned_vertices (chosen j) r) (corner_order chosen) (λ j a. refl) (λ j a face faces. refl) i first c.loop-face.corners.items c.add_corners.new.corners.items within rise c.in_ok-add_corners.ensures c.loop-face.invariant.corners;
      edges = one_more_face t c.requires.valid c.args.selected.now c.requires.selected (λ j r. turned_edges (chosen j) r) (edge_order chosen) (λ j a. refl) (λ j a face faces. refl) i first c.loop-face.edges.items c.add_edges.new.edges.items within rise c.in_ok-add_edges.ensures c.loop-face.invariant.edges;
    }

pub returns-clause-corners : goal.returns-clause-corners
returns-clause-corners c =
    let t = topology_of c.args.topology.now in
    let chosen = is_chosen c.args.selected.now in
    all_faces t c.requires.valid c.args.selected.now c.requires.selected (λ j r. turned_vertices (chosen j) r) (corner_order chosen) (λ j first. refl) (λ j first face faces. refl) c.loop-face.face c.loop-face.first c.loop-face.corners.items c.loop-face-test.false c.loop-face.invariant.corners

pub returns-clause-edges : goal.returns-clause-edges
returns-clause-edges c =
    let t = topology_of c.args.topology.now in
    let chosen = is_chosen c.args.selected.now in
    all_faces t c.requires.valid c.args.selected.now c.requires.selected (λ j r. turned_edges (chosen j) r) (edge_order chosen) (λ j first. refl) (λ j first face faces. refl) c.loop-face.face c.loop-face.first c.loop-face.edges.items c.loop-face-test.false c.loop-face.invariant.edges
