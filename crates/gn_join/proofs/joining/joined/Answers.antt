use Rattle.std.proofs.Common.{◌≡◌, ◌∙◌, ap, map, subst}
use Rattle.gn_geometry.specs.Geometries.{plain_geometry}
use Rattle.gn_joins.specs.Joins.{instance_part, joined_cloud, joined_columns, joined_mesh}
use Rattle.gn_join.specs.Gathering.{AreColumnsOfAll}
use Rattle.gn_join.proofs.JoinedWhole.{instances_below, instances_fit, joined_is}
use Rattle.gn_join.proofs.Soles.{joined_sole}
use Rattle.gn_join.proofs.joining.joined.Goals as goal

pub joined_instances-requires : goal.joined_instances-requires
joined_instances-requires c = instances_below (map plain_geometry c.args.parts.items) c.requires

pub set_columns-requires : goal.set_columns-requires
set_columns-requires c =
    let gs = map plain_geometry c.args.parts.items in
    instances_fit c.in_ok-instances.instances gs c.in_ok-sides.sides.columns c.in_ok-instances.ensures.placed
    (subst (λ (ps : _). AreColumnsOfAll (map plain_geometry ps) c.in_ok-sides.sides.columns) c.deref.ensures.value c.in_ok-sides.ensures.fit)

pub returns-clause-joined : goal.returns-clause-joined
returns-clause-joined c =
    let sides = c.in_ok-sides.sides in
    let same : map plain_geometry c.deref.result.now ≡ map plain_geometry c.args.parts.items = ap (map plain_geometry) c.deref.ensures.value in
    joined_is (map plain_geometry c.args.parts.items) sides.mesh sides.cloud c.in_ok-instances.instances c.set_columns.new.self sides.columns (c.in_ok-sides.ensures.mesh ∙ ap joined_mesh same) (c.in_ok-sides.ensures.cloud ∙ ap joined_cloud same)
    c.in_ok-instances.ensures.placed (c.in_ok-sides.ensures.columns ∙ ap (λ gs. joined_columns (map instance_part gs)) same) c.set_columns.ensures

pub returns-clause-sole : goal.returns-clause-sole
returns-clause-sole c =
    let sides = c.in_ok-sides.sides in
    λ sole. joined_sole sides.mesh sides.cloud c.in_ok-instances.instances c.set_columns.new.self sides.columns c.in_ok-sides.ensures.sole.0 c.in_ok-sides.ensures.sole.1 c.in_ok-sides.ensures.fit.sole c.set_columns.ensures (c.in_ok-instances.ensures.sole sole)
