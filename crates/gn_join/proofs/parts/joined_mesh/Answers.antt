use Rattle.std.proofs.Common.{◌≡◌, map, subst, sym}
use Rattle.gn_geometry.specs.Meshes as meshes
use Rattle.gn_geometry.specs.Meshes.{MeshView, plain_mesh}
use Rattle.gn_joins.specs.Joins.{joined_mesh}
use Rattle.gn_pieces.specs.Views.{geometry_of}
use Rattle.gn_join.proofs.Sides.{mesh_fits, mesh_is, mesh_sole, shape_is}
use Rattle.gn_join.proofs.parts.joined_mesh.Goals as goal

pub set_columns-requires : goal.set_columns-requires
set_columns-requires c =
    let shape = shape_is c.in_ok-mesh.mesh c.in_ok-lists.lists (map geometry_of c.args.views.now) c.in_ok-mesh.ensures.points c.in_ok-mesh.ensures.topology c.in_ok-lists.ensures.joined in
    mesh_fits c.args.views.now c.in_ok-mesh.mesh c.in_ok-columns.columns shape c.in_ok-columns.ensures.kept

pub returns-clause-mesh : goal.returns-clause-mesh
returns-clause-mesh c =
    let shape = shape_is c.in_ok-mesh.mesh c.in_ok-lists.lists (map geometry_of c.args.views.now) c.in_ok-mesh.ensures.points c.in_ok-mesh.ensures.topology c.in_ok-lists.ensures.joined in
    subst (λ (m : MeshView). plain_mesh m ≡ joined_mesh (map geometry_of c.args.views.now)) (sym c.set_columns.ensures) (mesh_is c.args.views.now c.in_ok-mesh.mesh c.in_ok-columns.columns shape c.in_ok-columns.ensures.columns)

pub returns-clause-sole : goal.returns-clause-sole
returns-clause-sole c = subst meshes.IsSole (sym c.set_columns.ensures) (mesh_sole c.args.views.now c.in_ok-mesh.mesh c.in_ok-columns.columns c.in_ok-mesh.ensures.sole c.in_ok-columns.ensures.kept)
