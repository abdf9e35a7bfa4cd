use Rattle.std.proofs.Common.{ap, map, subst}
use Rattle.gn_geometry.specs.Meshes.{MeshView}
use Rattle.gn_pieces.specs.Lists.{AreJoined}
use Rattle.gn_pieces.specs.Views.{geometry_of}
use Rattle.gn_pieces.proofs.JoinedLists.{corners_few, edges_few, numbered_lists, one_more_joined, points_few, shapes_of}
use Rattle.gn_pieces.proofs.Steps.{take_whole}
use Rattle.gn_pieces.proofs.shapes.joined_lists.Goals as goal

pub append-requires-clause-points : goal.append-requires-clause-points
append-requires-clause-points c =
    points_few c.args.views.now c.requires c.loop-view.view-index c.view-item.result c.loop-view-test.true c.view-item.is c.loop-view.lists c.loop-view.invariant c.mesh.result.now.shape (ap (λ (m : MeshView). m.shape) c.mesh.ensures)

pub append-requires-clause-edges : goal.append-requires-clause-edges
append-requires-clause-edges c =
    edges_few c.args.views.now c.requires c.loop-view.view-index c.view-item.result c.loop-view-test.true c.view-item.is c.loop-view.lists c.loop-view.invariant c.mesh.result.now.shape (ap (λ (m : MeshView). m.shape) c.mesh.ensures)

pub append-requires-clause-corners : goal.append-requires-clause-corners
append-requires-clause-corners c =
    corners_few c.args.views.now c.requires c.loop-view.view-index c.view-item.result c.loop-view-test.true c.view-item.is c.loop-view.lists c.loop-view.invariant c.mesh.result.now.shape (ap (λ (m : MeshView). m.shape) c.mesh.ensures)

pub loop-view-preserved : goal.loop-view-preserved
loop-view-preserved c =
    one_more_joined c.args.views.now c.loop-view.view-index c.view-item.result c.loop-view.lists c.append.new.self c.mesh.result.now.shape c.loop-view-test.true c.view-item.is (ap (λ (m : MeshView). m.shape) c.mesh.ensures) c.loop-view.invariant
    c.in_ok-append.ensures.valid c.in_ok-append.ensures.points c.in_ok-append.ensures.topology

pub returns-clause-numbered : goal.returns-clause-numbered
returns-clause-numbered c =
    let all = take_whole c.args.views.now c.loop-view.view-index c.loop-view-test.false in
    numbered_lists c.loop-view.lists (map geometry_of c.args.views.now) (subst (λ vs. AreJoined c.loop-view.lists (shapes_of vs)) all c.loop-view.invariant) c.requires
