use Rattle.std.proofs.Common.{◌∙◌, sym, get_or}
use Rattle.gn_value.specs.declared.value.Place.TheVariants.{Point}
use Rattle.gn_plain.specs.Geometry.{count}
use Rattle.gn_geometry.specs.Geometries.{plain_geometry}
use Rattle.gn_joins.specs.Limits.{all_places}
use Rattle.gn_joins.specs.Realized.{realized}
use Rattle.gn_join.proofs.Limits.{few_here, not_above}
use Rattle.gn_inst.proofs.counts.too_many_realized.Goals as goal

pub loop-place-preserved : goal.loop-place-preserved
loop-place-preserved c =
    let counts = count (realized (plain_geometry c.args.geometry.now)) in
    let few = not_above (counts (get_or all_places c.loop-place.place-index Point)) c.in_ok-elements.elements c.in_ok-elements.ensures c.if-elements-gt-MOST_ELEMENTS.false in
    sym (few_here counts all_places c.loop-place.place-index Point c.loop-place-test.true few) ∙ c.loop-place.invariant
