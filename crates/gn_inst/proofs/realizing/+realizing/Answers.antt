use Rattle.std.proofs.Common.{◌≡◌, ◌∙◌, ℕ, ◌<◌, ◌≤◌, List, length, ap, sym, subst, arith}
use Rattle.std.specs.List.{All}
use Rattle.gn_geometry.specs.declared.geometry.Transform.{Transform}
use Rattle.gn_geometry.specs.Geometries.{GeometryView, instances_in, items_in, parts_in}
use Rattle.gn_inst.specs.Realizing.{is_named}
use Rattle.gn_inst.proofs.RealizedSteps.{all_done, named_at, one_more_realized, part_is_done, part_is_few, points_below, sides_few, whole_is}
use Rattle.gn_inst.proofs.Smaller.{part_smaller}
use Rattle.gn_inst.proofs.realizing.+realizing.Goals as goal

pub realized_parts-named_parts-requires : goal.realized_parts-named_parts-requires
realized_parts-named_parts-requires t c =
    subst (λ n. All (λ (i : Transform × ℕ). i.1 < n) c.items_of.result.now) (ap length (sym c.parts_of-parts.ensures)) c.items_of.ensures.named

pub realized_parts-realized_part-requires : goal.realized_parts-realized_part-requires
realized_parts-realized_part-requires t c =
    let g = c.args.geometry.now in
    let at = c.loop-at.at in
    let is_named_at : c.index.result.now ≡ is_named (items_in (instances_in g)) at =
    named_at c.items_of.result.now (items_in (instances_in g)) c.in_ok-named.named.items (length c.parts_of-parts.result.now) at c.index.result.now c.items_of.ensures.items c.in_ok-named.ensures.long c.loop-at-test.true c.index.ensures c.in_ok-named.ensures.named in
    let named = subst (λ (xs : List (Transform × ℕ)). All (λ (i : Transform × ℕ). i.1 < length (parts_in (instances_in g))) xs) c.items_of.ensures.items c.items_of.ensures.named in (
      omega (arith, c.decreases, part_smaller g c.parts_of-parts.result.now at c.index-parts-at.result c.parts_of-parts.ensures c.loop-at-test.true c.index-parts-at.is),
      part_is_few g c.parts_of-parts.result.now at c.index-parts-at.result c.index.result.now c.parts_of-parts.ensures c.loop-at-test.true c.index-parts-at.is is_named_at named c.requires,
    )

pub realized_parts-loop-at-preserved : goal.realized_parts-loop-at-preserved
realized_parts-loop-at-preserved t c =
    let g = c.args.geometry.now in
    let at = c.loop-at.at in
    let is_named_at : c.index.result.now ≡ is_named (items_in (instances_in g)) at =
    named_at c.items_of.result.now (items_in (instances_in g)) c.in_ok-named.named.items (length c.parts_of-parts.result.now) at c.index.result.now c.items_of.ensures.items c.in_ok-named.ensures.long c.loop-at-test.true c.index.ensures c.in_ok-named.ensures.named in
    one_more_realized g c.loop-at.all.items c.push.new.self.items c.in_ok-realized_part.field-0 at c.in_ok-push.ensures.items
    (part_is_done g c.parts_of-parts.result.now at c.index-parts-at.result c.index.result.now c.parts_of-parts.ensures c.loop-at-test.true c.index-parts-at.is is_named_at c.in_ok-realized_part.field-0 c.in_ok-realized_part.ensures) c.loop-at.invariant

pub realized_parts-returns-clause-realized : goal.realized_parts-returns-clause-realized
realized_parts-returns-clause-realized t c =
    let g = c.args.geometry.now in
    let whole : length (parts_in (instances_in g)) ≤ c.loop-at.at = subst (λ (xs : List GeometryView). length xs ≤ c.loop-at.at) c.parts_of-parts.ensures c.loop-at-test.false in
    let named = subst (λ (xs : List (Transform × ℕ)). All (λ (i : Transform × ℕ). i.1 < length (parts_in (instances_in g))) xs) c.items_of.ensures.items c.items_of.ensures.named in
    all_done g c.loop-at.all.items c.loop-at.at whole named c.loop-at.invariant.1

pub realized-placed_views-requires : goal.realized-placed_views-requires
realized-placed_views-requires t c = ap length c.deref.ensures.value ∙ c.in_ok-parts.ensures.long

pub realized-joined_mesh-requires : goal.realized-joined_mesh-requires
realized-joined_mesh-requires t c =
    sides_few c.args.geometry.now c.in_ok-parts.parts.items c.deref.result.now c.in_ok-views.views.items c.in_ok-parts.ensures.realized c.deref.ensures.value c.in_ok-views.ensures c.deref-2.result.now c.deref-2.ensures.value c.requires

pub realized-joined_cloud-requires : goal.realized-joined_cloud-requires
realized-joined_cloud-requires t c =
    points_below c.args.geometry.now c.in_ok-parts.parts.items c.deref.result.now c.in_ok-views.views.items c.in_ok-parts.ensures.realized c.deref.ensures.value c.in_ok-views.ensures c.deref-3.result.now c.deref-3.ensures.value c.requires

pub realized-returns-clause-realized : goal.realized-returns-clause-realized
realized-returns-clause-realized t c =
    c.without_instances.ensures.geometry
    ∙ whole_is c.args.geometry.now c.in_ok-parts.parts.items c.deref.result.now c.in_ok-views.views.items c.in_ok-parts.ensures.realized c.deref.ensures.value c.in_ok-views.ensures c.in_ok-mesh.mesh c.in_ok-cloud.cloud c.deref-2.result.now c.deref-3.result.now c.deref-2.ensures.value c.deref-3.ensures.value c.in_ok-mesh.ensures.mesh c.in_ok-cloud.ensures.cloud

pub realized-returns-clause-sole : goal.realized-returns-clause-sole
realized-returns-clause-sole t c = c.without_instances.ensures.sole c.in_ok-mesh.ensures.sole c.in_ok-cloud.ensures.sole
