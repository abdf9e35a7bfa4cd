use Rattle.std.proofs.Common.{◌≡◌, length, ap, sym, subst, ◌∙◌}
use Rattle.gn_value.specs.declared.value.Place.{Place}
use Rattle.gn_value.specs.declared.value.Place.TheVariants.{Instance}
use Rattle.gn_plain.specs.Geometry as plain
use Rattle.gn_geometry.specs.Geometries.{GeometryView, plain_geometry}
use Rattle.gn_geometry.proofs.Placed.{instances_count}
use Rattle.gn_geometry.proofs.geometry.Geometry.count.Goals as goal

pub returns-in-Instance : goal.returns-in-Instance
returns-in-Instance c =
    subst (λ (p : Place). length c.items.result.now ≡ plain.count (plain_geometry c.args.self.now) p) (sym c.in-Instance.is)
    (subst (λ (g : GeometryView). length c.items.result.now ≡ plain.count (plain_geometry g) Instance) c.self.view_is (ap length c.items.ensures.items ∙ sym (instances_count c.self.inside.instances)))
