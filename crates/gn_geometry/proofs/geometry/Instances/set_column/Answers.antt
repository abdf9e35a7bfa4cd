use Rattle.std.proofs.Common.{◌≡◌, length, sym, subst, Some, ap}
use Rattle.gn_value.specs.declared.value.Place.TheVariants as place
use Rattle.gn_attr.specs.Names.{plain_name}
use Rattle.gn_plain.specs.Columns.{Entry, count_of_values}
use Rattle.gn_attr.specs.Columns.{values_of}
use Rattle.gn_attr.specs.declared.column.Column.{Column}
use Rattle.gn_geometry.specs.Fits.{Fits}
use Rattle.gn_geometry.specs.Geometries.{InstancesView, instance_count, items_in}
use Rattle.gn_geometry.proofs.Fitting.{fit_set}
use Rattle.gn_geometry.proofs.geometry.Instances.set_column.Goals as goal

pub invariant_of-self : goal.invariant_of-self
invariant_of-self c =
    let count = instance_count (length c.self.inside.items.items) in
    let x : Entry Column = record { name = plain_name c.args.name; place = place.Instance; column = c.args.column } in
    let many : length c.self.inside.items.items ≡ count_of_values (values_of c.args.column) =
    subst (λ (is : InstancesView). length (items_in is) ≡ count_of_values (values_of c.args.column)) (sym c.self.view_is) c.requires in
    let fits : Fits count place.Instance c.args.column = ap Some many in
    record {
      named = c.self.invariant.named;
      few_parts = c.self.invariant.few_parts;
      few_items = c.self.invariant.few_items;
      fit = fit_set count x c.self.inside.columns c.set.new.self c.set.result c.set.ensures.ok c.set.ensures.refused c.self.invariant.fit fits;
    }
