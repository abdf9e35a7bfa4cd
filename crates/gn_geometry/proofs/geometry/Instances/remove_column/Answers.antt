use Rattle.std.proofs.Common.{length, sym, subst}
use Rattle.gn_attr.specs.Names.{plain_name}
use Rattle.gn_geometry.specs.Fits.{AreFitting}
use Rattle.gn_geometry.specs.Geometries.{instance_count}
use Rattle.gn_geometry.proofs.Fitting.{fit_without}
use Rattle.gn_geometry.proofs.geometry.Instances.remove_column.Goals as goal

pub invariant_of-self : goal.invariant_of-self
invariant_of-self c =
    let count = instance_count (length c.self.inside.items.items) in
    record {
      named = c.self.invariant.named;
      few_parts = c.self.invariant.few_parts;
      few_items = c.self.invariant.few_items;
      fit = subst (AreFitting count) (sym c.remove.ensures.removed) (fit_without count (plain_name c.args.name.now) c.self.inside.columns c.self.invariant.fit);
    }
