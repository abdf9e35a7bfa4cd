use Rattle.std.proofs.Common.{sym, subst}
use Rattle.gn_geom.specs.Meshes.{plain_of}
use Rattle.gn_attr.specs.Names.{plain_name}
use Rattle.gn_geometry.specs.Fits.{AreFitting, mesh_count}
use Rattle.gn_geometry.specs.Meshes.{arrays_of}
use Rattle.gn_geometry.proofs.Fitting.{fit_without}
use Rattle.gn_geometry.proofs.mesh.Mesh.remove_column.Goals as goal

pub invariant_of-self : goal.invariant_of-self
invariant_of-self c =
    let count = mesh_count (plain_of (arrays_of c.self.inside.arrays)) in
    record { shape = c.self.invariant.shape; fit = subst (AreFitting count) (sym c.remove.ensures.removed) (fit_without count (plain_name c.args.name.now) c.self.inside.columns c.self.invariant.fit) }
