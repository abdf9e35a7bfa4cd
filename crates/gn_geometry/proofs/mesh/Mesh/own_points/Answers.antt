use Rattle.std.proofs.Common.{ap, length}
use Rattle.gn_geometry.proofs.Moved.{is_mesh_moved}
use Rattle.gn_geometry.proofs.mesh.Mesh.own_points.Goals as goal

pub invariant_of-self : goal.invariant_of-self
invariant_of-self g c = is_mesh_moved _ c.own.new.array (ap length c.own.ensures.items) c.self.invariant
