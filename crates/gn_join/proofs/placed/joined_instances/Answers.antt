use Rattle.std.proofs.Common.{◌≡◌, ◌+◌, ◌<◌, ◌^◌, length, map, ap, sym, subst, rules, arith, ◌∙◌}
use Rattle.std.proofs.lemmas.Iterator.Adapters.{YieldsList-from_vec}
use Rattle.std.proofs.lemmas.Iterator.Consumers.{YieldsList-end, YieldsList-turn}
use Rattle.gn_value.specs.declared.value.Place.TheVariants as place
use Rattle.gn_plain.specs.Geometry.{placed_in}
use Rattle.gn_geometry.specs.Geometries.{InstancesView, instances_in, items_in, plain_geometry, plain_instances, AreSoleInstances}
use Rattle.gn_joins.specs.Joins.{joined_placed, placed_behind}
use Rattle.gn_pieces.proofs.Totals.{first_counted}
use Rattle.gn_join.specs.Gathering.{placed_of}
use Rattle.gn_join.proofs.Gathering.{none_gathered, placed_made, whole}
use Rattle.gn_join.proofs.Soles.{made_sole, sole_there}
use Rattle.gn_join.proofs.Turns.{count_next, few_next, joined_next}
use Rattle.gn_join.proofs.placed.joined_instances.Goals as goal

pub append-requires-clause-few : goal.append-requires-clause-few
append-requires-clause-few c =
    let gs = c.args.geometries.items in
    let ys = c.loop-geometry.yielded in
    let all = YieldsList-from_vec {s = c.into_iter-geometry-iterator.result} gs (search rules) (search rules) in
    let turn = YieldsList-turn all ys c.loop-geometry.geometry-iterator c.loop-geometry.yielded_by c.next.result c.next.new.self c.in-Some.geometry c.in-Some.is c.next.ensures.steps in
    let here : c.geometry.inside.instances ≡ instances_in c.in-Some.geometry = ap instances_in c.geometry.view_is in
    let count = length c.loop-geometry.gathered.items.items in
    subst (λ (is : InstancesView). count + length (items_in is) < 2 ^ 32) (sym here) (few_next gs ys c.in-Some.geometry turn.0 turn.1 count c.loop-geometry.invariant.2 c.requires)

pub loop-geometry-init : goal.loop-geometry-init
loop-geometry-init c = none_gathered (record { parts = c.new.result; items = c.new-2.result }) c.args.geometries.items c.new.ensures.items c.new-2.ensures.items

pub loop-geometry-preserved : goal.loop-geometry-preserved
loop-geometry-preserved c =
    let gs = c.args.geometries.items in
    let ys = c.loop-geometry.yielded in
    let on = c.loop-geometry.invariant in
    let all = YieldsList-from_vec {s = c.into_iter-geometry-iterator.result} gs (search rules) (search rules) in
    let turn = YieldsList-turn all ys c.loop-geometry.geometry-iterator c.loop-geometry.yielded_by c.next.result c.next.new.self c.in-Some.geometry c.in-Some.is c.next.ensures.steps in
    let here : c.geometry.inside.instances ≡ instances_in c.in-Some.geometry = ap instances_in c.geometry.view_is in
    let before = c.loop-geometry.gathered in
    let after = c.append.new.gathered in (
      c.in_ok-append.ensures.gathered,
      joined_next gs ys c.in-Some.geometry turn.0 turn.1 (placed_of before) (placed_of after) on.1
          (c.in_ok-append.ensures.placed ∙ ap (λ (is : InstancesView). placed_behind (placed_of before) (placed_in (plain_instances is))) here),
      count_next gs ys c.in-Some.geometry turn.0 turn.1 (length before.items.items) (length after.items.items) on.2
          (c.in_ok-append.ensures.long ∙ ap (λ (is : InstancesView). length before.items.items + length (items_in is)) here),
      λ sole. c.in_ok-append.ensures.sole (on.3 sole) (subst AreSoleInstances (sym here) (sole_there gs (length ys) c.in-Some.geometry turn.0 turn.1 sole)),
    )

pub from_parts-requires-clause-few_items : goal.from_parts-requires-clause-few_items
from_parts-requires-clause-few_items c =
    omega (arith, c.loop-geometry.invariant.2, first_counted plain_geometry place.Instance (length c.loop-geometry.yielded) c.args.geometries.items, c.requires)

pub returns-clause-placed : goal.returns-clause-placed
returns-clause-placed c =
    let gs = c.args.geometries.items in
    let all = YieldsList-from_vec {s = c.into_iter-geometry-iterator.result} gs (search rules) (search rules) in
    let end = YieldsList-end all c.loop-geometry.yielded c.loop-geometry.geometry-iterator c.loop-geometry.yielded_by c.next.result c.next.new.self c.in-None.is c.next.ensures.steps in
    placed_made c.loop-geometry.gathered c.from_parts.result c.from_parts.ensures
    ∙ (c.loop-geometry.invariant.1 ∙ ap (λ xs. joined_placed (map (λ g. placed_in g.instances) (map plain_geometry xs))) (whole gs _ end.1))

pub returns-clause-sole : goal.returns-clause-sole
returns-clause-sole c = λ sole. made_sole c.loop-geometry.gathered.parts.items c.loop-geometry.gathered.items.items c.from_parts.result c.from_parts.ensures (c.loop-geometry.invariant.3 sole)
