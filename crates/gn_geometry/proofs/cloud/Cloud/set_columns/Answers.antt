use Rattle.std.proofs.Common.{length, sym, subst}
use Rattle.gn_geometry.specs.Fits.{AreFitting, cloud_count}
use Rattle.gn_geometry.specs.Clouds.{CloudView}
use Rattle.gn_geometry.proofs.cloud.Cloud.set_columns.Goals as goal

pub invariant_of-self : goal.invariant_of-self
invariant_of-self c =
    record { few = c.self.invariant.few; fit = subst (λ (d : CloudView). AreFitting (cloud_count (length d.points.items)) c.args.columns) (sym c.self.view_is) c.requires }
