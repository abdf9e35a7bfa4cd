use Rattle.std.proofs.Common.{length}
use Rattle.gn_attr.specs.Names.{plain_name}
use Rattle.gn_attr.specs.Columns.{values_of}
use Rattle.gn_geometry.specs.Fits.{cloud_count}
use Rattle.gn_geometry.proofs.Fitting.{fit_wrote}
use Rattle.gn_geometry.proofs.cloud.Cloud.write_column.Goals as goal

pub invariant_of-self : goal.invariant_of-self
invariant_of-self g c =
    let count = cloud_count (length c.self.inside.points.items) in
    record {
      few = c.self.invariant.few;
      fit = fit_wrote count (plain_name c.args.name.now) c.args.selected.now (values_of c.args.values.now) c.self.inside.columns c.write_column.new.self c.args.meter.now c.write_column.new.meter c.write_column.result
          c.write_column.ensures.written c.write_column.ensures.refused c.write_column.ensures.absent c.self.invariant.fit;
    }
