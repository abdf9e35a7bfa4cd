use Rattle.std.proofs.Common.{◌≡◌, ◌<◌, ◌∙◌, length, take, Some, set, refl, ap, sym, subst}
use Rattle.std.specs.Prelude.{slice_get}
use Rattle.std.proofs.lemmas.List.{length-set}
use Rattle.std.proofs.lemmas.Option.{slice_get_read}
use Rattle.gn_value.specs.declared.op.Register.TheVariants.{Truth}
use Rattle.gn_field.specs.Steps.{built}
use Rattle.gn_schedule.specs.Plans.{held, with_step}
use Rattle.gn_slots.specs.Registers.{CanExecute, IsRun}
use Rattle.gn_slots.proofs.Running.{slot_within, can_execute, ran_one, held_more}
use Rattle.gn_slots.proofs.run.run_instruction.Goals as goal

pub exchange-into-requires : goal.exchange-into-requires
exchange-into-requires g c =
    let ctx = g.C.Context.meaning c.args.context.now in
    let is = c.args.plan.now.instructions.items in
    let x = c.index-instruction.result.now in
    let here : slice_get is c.args.at ≡ Some x = slice_get_read is (length is) c.args.at x refl c.requires.within c.index-instruction.ensures in
    slot_within g.S.Source.sources g.S.Source.taken c.args.steps.now ctx c.args.elements.now c.args.wholes.now c.requires.ready c.args.plan.now.kinds.items (held (take c.args.at is)) c.args.registers.now.items c.requires.so_far x (c.requires.instructions c.args.at x here)

pub execute-requires-clause-can : goal.execute-requires-clause-can
execute-requires-clause-can g c κs within =
    let src = g.S.Source.sources in
    let xs = c.args.steps.now in
    let ctx = g.C.Context.meaning c.args.context.now in
    let ns = c.args.elements.now in
    let ws = c.args.wholes.now in
    let is = c.args.plan.now.instructions.items in
    let x = c.index-instruction.result.now in
    let here : slice_get is c.args.at ≡ Some x = slice_get_read is (length is) c.args.at x refl c.requires.within c.index-instruction.ensures in
    let i = c.requires.instructions c.args.at x here in
    let can = can_execute src g.S.Source.taken xs ctx ns ws c.requires.ready c.args.plan.now.kinds.items (held (take c.args.at is)) c.args.registers.now.items c.requires.so_far x i (Truth c.new.result) c.exchange-into.result c.exchange-into.ensures.out (c.requires.covered c.args.at x i.does here i.step) in
    subst (λ regs. CanExecute src xs ctx ns ws x regs c.exchange-into.result) (sym (c.as_slice.ensures.value ∙ c.exchange-into.ensures.put)) can

pub exchange-requires : goal.exchange-requires
exchange-requires g c =
    let ctx = g.C.Context.meaning c.args.context.now in
    let is = c.args.plan.now.instructions.items in
    let rs = c.args.registers.now.items in
    let x = c.index-instruction.result.now in
    let here : slice_get is c.args.at ≡ Some x = slice_get_read is (length is) c.args.at x refl c.requires.within c.index-instruction.ensures in
    let within : x.into < length rs = slot_within g.S.Source.sources g.S.Source.taken c.args.steps.now ctx c.args.elements.now c.args.wholes.now c.requires.ready c.args.plan.now.kinds.items (held (take c.args.at is)) rs c.requires.so_far x (c.requires.instructions c.args.at x here) in
    let long : length c.exchange-into.new.registers.items ≡ length rs = ap length c.exchange-into.ensures.put ∙ length-set rs x.into (Truth c.new.result) in
    subst (λ n. x.into < n) (sym long) within

pub returns : goal.returns
returns g c =
    let src = g.S.Source.sources in
    let xs = c.args.steps.now in
    let ctx = g.C.Context.meaning c.args.context.now in
    let ns = c.args.elements.now in
    let ws = c.args.wholes.now in
    let kinds = c.args.plan.now.kinds.items in
    let is = c.args.plan.now.instructions.items in
    let rs = c.args.registers.now.items in
    let x = c.index-instruction.result.now in
    let here : slice_get is c.args.at ≡ Some x = slice_get_read is (length is) c.args.at x refl c.requires.within c.index-instruction.ensures in
    let i = c.requires.instructions c.args.at x here in
    let one : IsRun src (built xs) ctx ns kinds (with_step (held (take c.args.at is)) x) (set (set rs x.into (Truth c.new.result)) x.into c.execute.new.into) = ran_one src g.S.Source.taken xs ctx ns ws c.requires.ready kinds (held (take c.args.at is)) rs c.requires.so_far x i (Truth c.new.result) c.execute.new.into c.execute.ensures in
    let all : c.exchange.new.registers.items ≡ set (set rs x.into (Truth c.new.result)) x.into c.execute.new.into = c.exchange.ensures.put ∙ ap (λ qs. set qs x.into c.execute.new.into) c.exchange-into.ensures.put in
    held_more src (built xs) ctx ns kinds is c.args.at x c.exchange.new.registers.items c.requires.within here
    (subst (IsRun src (built xs) ctx ns kinds (with_step (held (take c.args.at is)) x)) (sym all) one)
