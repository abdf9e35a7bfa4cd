use Rattle.std.proofs.Common.{length, subst}
use Rattle.gn_geometry.specs.Fits.{AreFitting, cloud_count}
use Rattle.gn_geometry.specs.Clouds.{CloudView}
use Rattle.gn_geometry.proofs.cloud.Cloud.columns.Goals as goal

pub returns-clause-fit : goal.returns-clause-fit
returns-clause-fit c = subst (λ (d : CloudView). AreFitting (cloud_count (length d.points.items)) c.self.inside.columns) c.self.view_is c.self.invariant.fit
