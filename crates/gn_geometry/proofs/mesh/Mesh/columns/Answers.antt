use Rattle.std.proofs.Common.{subst}
use Rattle.gn_geom.specs.Meshes.{plain_of}
use Rattle.gn_geometry.specs.Fits.{AreFitting, mesh_count}
use Rattle.gn_geometry.specs.Meshes.{MeshView}
use Rattle.gn_geometry.proofs.mesh.Mesh.columns.Goals as goal

pub returns-clause-fit : goal.returns-clause-fit
returns-clause-fit c = subst (λ (m : MeshView). AreFitting (mesh_count (plain_of m.shape)) c.self.inside.columns) c.self.view_is c.self.invariant.fit
