use Rattle.std.proofs.Common.{◌∙◌, sym, map, get_or}
use Rattle.gn_value.specs.declared.value.Place.TheVariants.{Point}
use Rattle.gn_geometry.specs.Geometries.{plain_geometry}
use Rattle.gn_joins.specs.Limits.{all_places, count_together}
use Rattle.gn_join.proofs.Limits.{few_here, not_above}
use Rattle.gn_join.proofs.limit.too_many.Goals as goal

-- src/limit.rt:66:5
pub loop-place-preserved : goal.loop-place-preserved
loop-place-preserved c =
    let counts = count_together (map plain_geometry c.args.geometries.now) in
    let few = not_above (counts (get_or all_places c.loop-place.place-index Point)) c.count_together-elements.result c.count_together-elements.ensures c.if-elements-gt-MOST_ELEMENTS.false in
    sym (few_here counts all_places c.loop-place.place-index Point c.loop-place-test.true few) ∙ c.loop-place.invariant
