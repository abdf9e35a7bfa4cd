use Rattle.std.proofs.Common.{sym, subst}
use Rattle.gn_geom.specs.Meshes.{plain_of}
use Rattle.gn_geometry.specs.Fits.{AreFitting, mesh_count}
use Rattle.gn_geometry.specs.Meshes.{MeshView}
use Rattle.gn_geometry.proofs.mesh.Mesh.set_columns.Goals as goal

pub invariant_of-self : goal.invariant_of-self
invariant_of-self c =
    record { shape = c.self.invariant.shape; fit = subst (λ (m : MeshView). AreFitting (mesh_count (plain_of m.shape)) c.args.columns) (sym c.self.view_is) c.requires }
