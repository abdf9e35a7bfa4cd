use Rattle.std.proofs.Common.{◌≡◌, ℕ, ◌<◌, [], length, map, take, pos, ap, sym, ◌∙◌, arith}
use Rattle.gn_value.specs.Values.{v3}
use Rattle.gn_geometry.specs.declared.geometry.Transform.{Transform}
use Rattle.gn_geometry.specs.Geometries.{items_in, parts_in, placed_by, plain_geometry}
use Rattle.gn_joins.specs.Joins.{placed_behind}
use Rattle.gn_pieces.proofs.Steps.{take_whole}
use Rattle.gn_join.specs.Gathering.{part_in, placed_of, slots_of}
use Rattle.gn_join.proofs.Gathered.{placed_plain}
use Rattle.gn_join.proofs.Gathering.{item_next, names_there, starts}
use Rattle.gn_join.proofs.Turns.{slots_long}
use Rattle.gn_join.proofs.placed.append.Goals as goal

pub place-requires-clause-there : goal.place-requires-clause-there
place-requires-clause-there c =
    let d : Transform × ℕ = (record { rows = []; at = v3 (pos 0) (pos 0) (pos 0) }, 0) in
    let slots = slots_long (parts_in c.args.instances) c.loop-transform.gathered.parts.items c.loop-transform.slots.items c.loop-transform.invariant.2 in
    names_there c.deref-transform-items.result.now c.into_parts-parts.result.1.items c.loop-transform.transform-index (length c.into_parts-parts.result.0.items) (length c.loop-transform.slots.items) d
    c.deref-transform-items.ensures.value c.into_parts-parts.ensures.named c.loop-transform-test.true (ap length c.into_parts-parts.ensures.parts ∙ sym slots)

pub place-requires-clause-few : goal.place-requires-clause-few
place-requires-clause-few c =
    let long : length c.deref-transform-items.result.now ≡ length (items_in c.args.instances) = ap length (c.deref-transform-items.ensures.value ∙ c.into_parts-parts.ensures.items) in
    let test : c.loop-transform.transform-index < length c.deref-transform-items.result.now = c.loop-transform-test.true in
    omega (arith, c.loop-transform.invariant.4, c.requires.few, test, long)

pub loop-transform-init : goal.loop-transform-init
loop-transform-init c = starts c.args.gathered.now c.args.instances c.in_ok-slots.slots.items (c.in_ok-slots.ensures ∙ ap slots_of c.into_parts-parts.ensures.parts) c.requires.gathered

pub loop-transform-preserved : goal.loop-transform-preserved
loop-transform-preserved c =
    let d : Transform × ℕ = (record { rows = []; at = v3 (pos 0) (pos 0) (pos 0) }, 0) in
    let on = c.loop-transform.invariant in
    let before = c.loop-transform.gathered in (
      c.in_ok-place.ensures.gathered,
      c.in_ok-place.ensures.numbered,
      c.in_ok-place.ensures.parts ∙ on.2,
      item_next (placed_of c.args.gathered.now) (placed_of before) (placed_of c.place.new.gathered) c.deref-transform-items.result.now (map plain_geometry (parts_in c.args.instances)) (map (part_in before.parts.items) c.loop-transform.slots.items) c.loop-transform.transform-index d
          c.loop-transform-test.true on.2 on.3 c.in_ok-place.ensures.placed,
      omega (arith, c.in_ok-place.ensures.long, on.4),
      λ parts sole. let so_far = on.5 parts sole in c.in_ok-place.ensures.sole so_far.0 so_far.1,
    )

pub returns-clause-placed : goal.returns-clause-placed
returns-clause-placed c =
    let all : take c.loop-transform.transform-index c.deref-transform-items.result.now ≡ items_in c.args.instances =
    take_whole c.deref-transform-items.result.now c.loop-transform.transform-index c.loop-transform-test.false ∙ (c.deref-transform-items.ensures.value ∙ c.into_parts-parts.ensures.items) in
    c.loop-transform.invariant.3
    ∙ ap (placed_behind (placed_of c.args.gathered.now)) (ap (λ is. placed_by is (map plain_geometry (parts_in c.args.instances))) all ∙ sym (placed_plain c.args.instances))

pub returns-clause-sole : goal.returns-clause-sole
returns-clause-sole c = λ parts sole. (c.loop-transform.invariant.5 parts sole).0
