use Rattle.gn_geometry.proofs.Moved.{is_mesh_moved, length_written}
use Rattle.gn_geometry.proofs.mesh.Mesh.sole_points.Goals as goal

pub invariant_of-self-lent : goal.invariant_of-self-lent
invariant_of-self-lent c w = is_mesh_moved _ _ (length_written c.self.inside.arrays.points.items w) c.self.invariant
