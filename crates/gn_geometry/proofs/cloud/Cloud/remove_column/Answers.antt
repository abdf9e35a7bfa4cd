use Rattle.std.proofs.Common.{length, sym, subst}
use Rattle.gn_attr.specs.Names.{plain_name}
use Rattle.gn_geometry.specs.Fits.{AreFitting, cloud_count}
use Rattle.gn_geometry.proofs.Fitting.{fit_without}
use Rattle.gn_geometry.proofs.cloud.Cloud.remove_column.Goals as goal

pub invariant_of-self : goal.invariant_of-self
invariant_of-self c =
    let count = cloud_count (length c.self.inside.points.items) in
    record { few = c.self.invariant.few; fit = subst (AreFitting count) (sym c.remove.ensures.removed) (fit_without count (plain_name c.args.name.now) c.self.inside.columns c.self.invariant.fit) }
