use Rattle.std.proofs.Common.{length, sym, subst}
use Rattle.gn_geometry.specs.Fits.{AreFitting}
use Rattle.gn_geometry.specs.Geometries.{InstancesView, instance_count, items_in}
use Rattle.gn_geometry.proofs.geometry.Instances.set_columns.Goals as goal

pub invariant_of-self : goal.invariant_of-self
invariant_of-self c =
    record {
      named = c.self.invariant.named;
      few_parts = c.self.invariant.few_parts;
      few_items = c.self.invariant.few_items;
      fit = subst (λ (is : InstancesView). AreFitting (instance_count (length (items_in is))) c.args.columns) (sym c.self.view_is) c.requires;
    }
