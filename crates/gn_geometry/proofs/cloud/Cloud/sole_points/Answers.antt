use Rattle.gn_geometry.proofs.Moved.{is_cloud_moved, length_written}
use Rattle.gn_geometry.proofs.cloud.Cloud.sole_points.Goals as goal

pub invariant_of-self-lent : goal.invariant_of-self-lent
invariant_of-self-lent c w = is_cloud_moved _ _ (length_written c.self.inside.points.items w) c.self.invariant
