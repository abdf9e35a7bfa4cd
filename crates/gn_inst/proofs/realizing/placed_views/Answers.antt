use Rattle.std.proofs.Common.{◌≡◌, ◌∙◌, ℕ, ◌<◌, [], ◌∷◌, length, map, take, get_or, pos, refl, arith}
use Rattle.gn_value.specs.Values.{v3}
use Rattle.gn_attr.specs.Columns.{plain_columns}
use Rattle.gn_geometry.specs.declared.geometry.Transform.{Transform}
use Rattle.gn_geometry.specs.Geometries.{instances_in, items_in, plain_geometry}
use Rattle.gn_pieces.proofs.Steps.{take_whole}
use Rattle.gn_join.proofs.Gathering.{any_default}
use Rattle.gn_inst.specs.Realizing.{placed_parts}
use Rattle.gn_inst.proofs.RealizedSteps.{one_more_placed}
use Rattle.gn_inst.proofs.realizing.placed_views.Goals as goal

pub loop-item-preserved : goal.loop-item-preserved
loop-item-preserved c =
    let d : Transform × ℕ = (record { rows = []; at = v3 (pos 0) (pos 0) (pos 0) }, 0) in
    let items = c.items_of-items.result.now in
    let n = c.loop-item.item in
    let i = get_or items n d in
    let within : i.1 < length c.args.parts.now = omega (arith, c.items_of-items.ensures.named n d c.loop-item-test.true, c.requires) in
    one_more_placed (plain_geometry c.args.geometry.now) c.args.parts.now items (plain_columns c.columns_of-columns.result.now) n i c.index-parts-part.result _ c.loop-item.views.items c.push-in-loop-item.new.self.items c.loop-item-test.true
    (any_default items n d i c.loop-item-test.true) within c.index-parts-part.is c.in_ok-push-2.ensures.items refl c.loop-item.invariant

pub returns : goal.returns
returns c =
    let g = c.args.geometry.now in
    let all : take c.loop-item.item c.items_of-items.result.now ≡ items_in (instances_in g) = take_whole c.items_of-items.result.now c.loop-item.item c.loop-item-test.false ∙ c.items_of-items.ensures.items in
    c.loop-item.invariant ∙ (λ j. plain_geometry g ∷ placed_parts (plain_columns (c.columns_of-columns.ensures j)) 0 (all j) (map plain_geometry c.args.parts.now))
