use Rattle.std.proofs.Common.{◌∙◌, ap, map}
use Rattle.gn_geometry.specs.Geometries.{plain_geometry}
use Rattle.gn_joins.specs.Joins.{instance_part, joined_cloud, joined_columns, joined_mesh}
use Rattle.gn_pieces.specs.Views.{geometry_of}
use Rattle.gn_join.proofs.JoinedWhole.{columns_of_all, views_cloud_few, views_mesh_few}
use Rattle.gn_join.proofs.joining.sides_of.Goals as goal

pub joined_mesh-requires : goal.joined_mesh-requires
joined_mesh-requires c =
    views_mesh_few c.deref.result.now (map plain_geometry c.args.parts.now) (ap (map geometry_of) c.deref.ensures.value ∙ c.in_ok-views.ensures) c.requires

pub joined_cloud-requires : goal.joined_cloud-requires
joined_cloud-requires c =
    views_cloud_few c.deref-2.result.now (map plain_geometry c.args.parts.now) (ap (map geometry_of) c.deref-2.ensures.value ∙ c.in_ok-views.ensures) c.requires

pub returns-clause-mesh : goal.returns-clause-mesh
returns-clause-mesh c = c.in_ok-mesh.ensures.mesh ∙ ap joined_mesh (ap (map geometry_of) c.deref.ensures.value ∙ c.in_ok-views.ensures)

pub returns-clause-cloud : goal.returns-clause-cloud
returns-clause-cloud c = c.in_ok-cloud.ensures.cloud ∙ ap joined_cloud (ap (map geometry_of) c.deref-2.ensures.value ∙ c.in_ok-views.ensures)

pub returns-clause-columns : goal.returns-clause-columns
returns-clause-columns c = c.in_ok-columns.ensures.columns ∙ ap (λ gs. joined_columns (map instance_part gs)) (ap (map geometry_of) c.deref-3.ensures.value ∙ c.in_ok-views.ensures)

pub returns-clause-fit : goal.returns-clause-fit
returns-clause-fit c =
    columns_of_all c.deref-3.result.now (map plain_geometry c.args.parts.now) c.in_ok-columns.columns (ap (map geometry_of) c.deref-3.ensures.value ∙ c.in_ok-views.ensures) c.in_ok-columns.ensures.kept
