use Rattle.std.proofs.Common.{ap, length}
use Rattle.gn_geometry.proofs.Moved.{is_cloud_moved}
use Rattle.gn_geometry.proofs.cloud.Cloud.own_points.Goals as goal

pub invariant_of-self : goal.invariant_of-self
invariant_of-self g c = is_cloud_moved _ c.own.new.array (ap length c.own.ensures.items) c.self.invariant
