use Rattle.std.proofs.Common.{◌≡◌, ◌<◌, ◌∙◌, Some, length, map, get_or, refl, ap, sym, subst, arith}
use Rattle.std.specs.Prelude.{slice_get}
use Rattle.std.proofs.lemmas.Option.{slice_get_read}
use Rattle.gn_field.specs.Steps.{AreBelow, key_of, kind_at}
use Rattle.gn_schedule.specs.declared.plan.Instruction.{Instruction}
use Rattle.gn_schedule.specs.declared.plan.Planning.{Planning}
use Rattle.gn_schedule.specs.Plans.{operands, IsTaken}
use Rattle.gn_schedule.proofs.Planning.{planned}
use Rattle.gn_schedule.proofs.Reading.{operands_before}
use Rattle.gn_schedule.proofs.plan.plan_step.Goals as goal

pub operand_slots-requires : goal.operand_slots-requires
operand_slots-requires g c =
    let xs = c.args.steps.now in
    let x = c.index-steps-at.result in
    let here : slice_get xs c.args.at ≡ Some x = slice_get_read xs (length xs) c.args.at x refl c.requires.within c.index-steps-at.is in
    let long : length c.deref.result.now ≡ c.args.at = ap length c.deref.ensures.value ∙ c.requires.so_far.done in
    subst (λ n. AreBelow n (operands (key_of x))) (sym long) (operands_before xs c.args.at x c.requires.back here)

pub take_slot-requires-clause-held : goal.take_slot-requires-clause-held
take_slot-requires-clause-held g c = λ s j h. omega (arith, c.requires.so_far.early s j h, c.requires.within, c.requires.readers.long)

pub returns : goal.returns
returns g c =
    let src = g.S.Source.sources in
    let xs = c.args.steps.now in
    let readers = c.args.readers.now in
    let at = c.args.at in
    let p = c.args.planning.now in
    let x = c.index-steps-at.result in
    let into = c.in_ok-into.into in
    let here : slice_get xs at ≡ Some x = slice_get_read xs (length xs) at x refl c.requires.within c.index-steps-at.is in
    let q : Planning = record { instructions = c.push-3.new.self; kinds = c.take_slot.new.kinds; holds = c.take_slot.new.holds; slots = c.push-2.new.self } in
    let i : Instruction = record { step = at; args = c.in_ok-args.args; into = into } in
    let read : 0 < get_or readers at 0 = omega (arith, c.if-readers-at-eq0.false) in
    let taken : IsTaken readers (kind_at src x) at into p.kinds.items c.take_slot.new.kinds.items p.holds.items c.take_slot.new.holds.items =
    subst (λ kind. IsTaken readers kind at into p.kinds.items c.take_slot.new.kinds.items p.holds.items c.take_slot.new.holds.items) c.kind.ensures c.in_ok-into.ensures in
    let args : c.in_ok-args.args.items ≡ map (λ a. get_or p.slots.items a 0) (operands (key_of x)) =
    subst (λ ss. c.in_ok-args.args.items ≡ map (λ a. get_or ss a 0) (operands (key_of x))) c.deref.ensures.value c.in_ok-args.ensures in
    planned src xs readers at p q c.requires.so_far x i c.requires.back c.requires.readers here read taken refl args c.in_ok-push-3.ensures.items c.in_ok-push-2.ensures.items
