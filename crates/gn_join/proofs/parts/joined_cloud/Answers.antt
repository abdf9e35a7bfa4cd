use Rattle.std.proofs.Common.{◌≡◌, ◌∙◌, map, subst, sym}
use Rattle.gn_geometry.specs.Clouds as clouds
use Rattle.gn_geometry.specs.Clouds.{CloudView, plain_cloud}
use Rattle.gn_joins.specs.Joins.{joined_cloud}
use Rattle.gn_pieces.specs.Views.{geometry_of}
use Rattle.gn_join.proofs.Sides.{cloud_fits, cloud_is, cloud_sole, points_few}
use Rattle.gn_join.proofs.parts.joined_cloud.Goals as goal

pub from_points-requires : goal.from_points-requires
from_points-requires c = points_few (map geometry_of c.args.views.now) c.in_ok-points.points.items c.in_ok-points.ensures c.requires

pub set_columns-requires : goal.set_columns-requires
set_columns-requires c = cloud_fits c.args.views.now c.in_ok-cloud.cloud.points.items c.in_ok-columns.columns (c.in_ok-cloud.ensures.points ∙ c.in_ok-points.ensures) c.in_ok-columns.ensures.kept

pub returns-clause-cloud : goal.returns-clause-cloud
returns-clause-cloud c =
    subst (λ (d : CloudView). plain_cloud d ≡ joined_cloud (map geometry_of c.args.views.now)) (sym c.set_columns.ensures)
    (cloud_is c.args.views.now c.in_ok-cloud.cloud c.in_ok-columns.columns (c.in_ok-cloud.ensures.points ∙ c.in_ok-points.ensures) c.in_ok-columns.ensures.columns)

pub returns-clause-sole : goal.returns-clause-sole
returns-clause-sole c = subst clouds.IsSole (sym c.set_columns.ensures) (cloud_sole c.args.views.now c.in_ok-cloud.cloud c.in_ok-columns.columns c.in_ok-cloud.ensures.sole c.in_ok-columns.ensures.kept)
