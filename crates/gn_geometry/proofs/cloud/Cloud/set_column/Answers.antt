use Rattle.std.proofs.Common.{◌≡◌, length, sym, subst, Some, ap}
use Rattle.gn_value.specs.declared.value.Place.TheVariants as place
use Rattle.gn_attr.specs.Names.{plain_name}
use Rattle.gn_plain.specs.Columns.{Entry, count_of_values}
use Rattle.gn_attr.specs.Columns.{values_of}
use Rattle.gn_attr.specs.declared.column.Column.{Column}
use Rattle.gn_geometry.specs.Fits.{Fits, cloud_count}
use Rattle.gn_geometry.specs.Clouds.{CloudView}
use Rattle.gn_geometry.proofs.Fitting.{fit_set}
use Rattle.gn_geometry.proofs.cloud.Cloud.set_column.Goals as goal

pub invariant_of-self : goal.invariant_of-self
invariant_of-self c =
    let count = cloud_count (length c.self.inside.points.items) in
    let x : Entry Column = record { name = plain_name c.args.name; place = place.Cloud; column = c.args.column } in
    let many : length c.self.inside.points.items ≡ count_of_values (values_of c.args.column) =
    subst (λ (d : CloudView). length d.points.items ≡ count_of_values (values_of c.args.column)) (sym c.self.view_is) c.requires in
    let fits : Fits count place.Cloud c.args.column = ap Some many in
    record { few = c.self.invariant.few; fit = fit_set count x c.self.inside.columns c.set.new.self c.set.result c.set.ensures.ok c.set.ensures.refused c.self.invariant.fit fits }
