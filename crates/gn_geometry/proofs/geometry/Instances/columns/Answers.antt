use Rattle.std.proofs.Common.{length, subst}
use Rattle.gn_geometry.specs.Fits.{AreFitting}
use Rattle.gn_geometry.specs.Geometries.{InstancesView, instance_count, items_in}
use Rattle.gn_geometry.proofs.geometry.Instances.columns.Goals as goal

pub returns-clause-fit : goal.returns-clause-fit
returns-clause-fit c = subst (λ (is : InstancesView). AreFitting (instance_count (length (items_in is))) c.self.inside.columns) c.self.view_is c.self.invariant.fit
