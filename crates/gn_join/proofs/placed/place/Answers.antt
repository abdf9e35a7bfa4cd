use Rattle.std.proofs.Common.{set, refl, arith}
use Rattle.gn_join.proofs.Gathered.{gathered_more, is_step, placed_one}
use Rattle.gn_join.proofs.Soles.{sole_step}
use Rattle.gn_join.proofs.placed.place.Goals as goal

pub number_of-requires : goal.number_of-requires
number_of-requires c = omega (arith, c.requires.few, c.requires.gathered.few)

pub returns-clause-numbered : goal.returns-clause-numbered
returns-clause-numbered c =
    let slots = c.args.slots.now.items in
    let now = set slots c.args.number c.number_of.new.slot in
    let step = is_step c.args.gathered.now.parts.items c.number_of.new.parts.items slots now c.args.number c.in_ok-number.number c.index_mut.result.now c.number_of.new.slot c.requires.there c.index_mut.ensures.value c.requires.numbered c.in_ok-number.ensures refl in
    step.numbered

pub returns-clause-gathered : goal.returns-clause-gathered
returns-clause-gathered c =
    let slots = c.args.slots.now.items in
    let now = set slots c.args.number c.number_of.new.slot in
    let step = is_step c.args.gathered.now.parts.items c.number_of.new.parts.items slots now c.args.number c.in_ok-number.number c.index_mut.result.now c.number_of.new.slot c.requires.there c.index_mut.ensures.value c.requires.numbered c.in_ok-number.ensures refl in
    gathered_more c.args.gathered.now (record { parts = c.number_of.new.parts; items = c.push.new.self }) slots now c.args.number c.in_ok-number.number c.args.transform step c.in_ok-push.ensures.items c.requires.gathered

pub returns-clause-parts : goal.returns-clause-parts
returns-clause-parts c =
    let slots = c.args.slots.now.items in
    let now = set slots c.args.number c.number_of.new.slot in
    let step = is_step c.args.gathered.now.parts.items c.number_of.new.parts.items slots now c.args.number c.in_ok-number.number c.index_mut.result.now c.number_of.new.slot c.requires.there c.index_mut.ensures.value c.requires.numbered c.in_ok-number.ensures refl in
    step.parts

pub returns-clause-placed : goal.returns-clause-placed
returns-clause-placed c =
    let slots = c.args.slots.now.items in
    let now = set slots c.args.number c.number_of.new.slot in
    let step = is_step c.args.gathered.now.parts.items c.number_of.new.parts.items slots now c.args.number c.in_ok-number.number c.index_mut.result.now c.number_of.new.slot c.requires.there c.index_mut.ensures.value c.requires.numbered c.in_ok-number.ensures refl in
    placed_one c.args.gathered.now (record { parts = c.number_of.new.parts; items = c.push.new.self }) slots now c.args.number c.in_ok-number.number c.args.transform step c.in_ok-push.ensures.items c.requires.gathered

pub returns-clause-sole : goal.returns-clause-sole
returns-clause-sole c =
    let slots = c.args.slots.now.items in
    let now = set slots c.args.number c.number_of.new.slot in
    sole_step c.args.gathered.now.parts.items c.number_of.new.parts.items slots now c.args.number c.in_ok-number.number c.index_mut.result.now c.number_of.new.slot c.requires.there c.index_mut.ensures.value c.in_ok-number.ensures refl
