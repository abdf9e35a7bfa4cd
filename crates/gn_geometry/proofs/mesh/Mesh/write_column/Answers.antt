use Rattle.gn_geom.specs.Meshes.{plain_of}
use Rattle.gn_attr.specs.Names.{plain_name}
use Rattle.gn_attr.specs.Columns.{values_of}
use Rattle.gn_geometry.specs.Fits.{mesh_count}
use Rattle.gn_geometry.specs.Meshes.{arrays_of}
use Rattle.gn_geometry.proofs.Fitting.{fit_wrote}
use Rattle.gn_geometry.proofs.mesh.Mesh.write_column.Goals as goal

pub invariant_of-self : goal.invariant_of-self
invariant_of-self g c =
    let count = mesh_count (plain_of (arrays_of c.self.inside.arrays)) in
    record {
      shape = c.self.invariant.shape;
      fit = fit_wrote count (plain_name c.args.name.now) c.args.selected.now (values_of c.args.values.now) c.self.inside.columns c.write_column.new.self c.args.meter.now c.write_column.new.meter c.write_column.result
          c.write_column.ensures.written c.write_column.ensures.refused c.write_column.ensures.absent c.self.invariant.fit;
    }
