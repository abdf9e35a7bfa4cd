use Rattle.std.proofs.Common.{◌≡◌, ◌<◌, ◌∙◌, length, get_or, map, Some, refl, ap, subst, sym, arith}
use Rattle.std.specs.Prelude.{slice_get, All}
use Rattle.std.proofs.lemmas.List.{get_or_read}
use Rattle.std.proofs.lemmas.List.Elements.{All-get_or}
use Rattle.std.proofs.lemmas.Option.{slice_get_within, slice_get_read}
use Rattle.gn_value.specs.Operations.{Takes}
use Rattle.gn_value.specs.Rows.{row}
use Rattle.gn_value.specs.Values.{zero_of}
use Rattle.gn_value.specs.Registers.{register_kind, register_len, register_value, registers_named}
use Rattle.gn_field.specs.declared.step.FieldStep.{FieldStep}
use Rattle.gn_field.specs.declared.step.FieldStep.TheVariants.{Constant, Input as Read, Apply, Elsewhere, Sampled}
use Rattle.gn_slots.proofs.Running.{here_is, kind_here, gives_at, operands_long, operands_taken, rows, one_operand, operand_taken, operand_gives, samples, zero_nowhere, there_here, kind_made}
use Rattle.gn_slots.proofs.execute.execute.Goals as goal

pub bounds-steps-at : goal.bounds-steps-at
bounds-steps-at g c = slice_get_within c.args.steps.now c.args.instruction.now.step c.requires.can.does c.requires.can.step

pub fill-requires : goal.fill-requires
fill-requires g c =
    let xs = c.args.steps.now in
    let k = c.args.instruction.now.step in
    let does : FieldStep g.row.S.Denot = Constant c.in-Constant.value in
    let here : slice_get xs k ≡ Some does = here_is xs k c.index-steps-at.result does (slice_get_within xs k c.requires.can.does c.requires.can.step) c.index-steps-at.is c.in-Constant.is in
    kind_here g.S.Source.sources g.S.Source.taken xs (g.C.Context.meaning c.args.context.now) c.args.elements.now c.args.wholes.now c.requires.ready c.args.instruction.now c.args.registers.now c.args.into.now c.requires.can does here

pub returns-in-Constant : goal.returns-in-Constant
returns-in-Constant g c =
    let xs = c.args.steps.now in
    let k = c.args.instruction.now.step in
    let does : FieldStep g.row.S.Denot = Constant c.in-Constant.value in
    let here : slice_get xs k ≡ Some does = here_is xs k c.index-steps-at.result does (slice_get_within xs k c.requires.can.does c.requires.can.step) c.index-steps-at.is c.in-Constant.is in
    gives_at g.S.Source.sources g.S.Source.taken xs (g.C.Context.meaning c.args.context.now) c.args.elements.now c.args.wholes.now c.requires.ready c.args.instruction.now c.args.registers.now c.args.into.now c.requires.can does here c.fill.new.into c.fill.ensures.kind c.fill.ensures.len c.fill.ensures.values

pub read-requires-clause-kind : goal.read-requires-clause-kind
read-requires-clause-kind g c =
    let xs = c.args.steps.now in
    let k = c.args.instruction.now.step in
    let does : FieldStep g.row.S.Denot = Read c.in-Input.input in
    let here : slice_get xs k ≡ Some does = here_is xs k c.index-steps-at.result does (slice_get_within xs k c.requires.can.does c.requires.can.step) c.index-steps-at.is c.in-Input.is in
    kind_here g.S.Source.sources g.S.Source.taken xs (g.C.Context.meaning c.args.context.now) c.args.elements.now c.args.wholes.now c.requires.ready c.args.instruction.now c.args.registers.now c.args.into.now c.requires.can does here

pub returns-in-Input : goal.returns-in-Input
returns-in-Input g c =
    let xs = c.args.steps.now in
    let k = c.args.instruction.now.step in
    let does : FieldStep g.row.S.Denot = Read c.in-Input.input in
    let here : slice_get xs k ≡ Some does = here_is xs k c.index-steps-at.result does (slice_get_within xs k c.requires.can.does c.requires.can.step) c.index-steps-at.is c.in-Input.is in
    gives_at g.S.Source.sources g.S.Source.taken xs (g.C.Context.meaning c.args.context.now) c.args.elements.now c.args.wholes.now c.requires.ready c.args.instruction.now c.args.registers.now c.args.into.now c.requires.can does here c.read.new.into c.read.ensures.kind c.read.ensures.len c.read.ensures.values

pub many-requires-clause-in_range : goal.many-requires-clause-in_range
many-requires-clause-in_range g c =
    subst (All (λ n. n < length c.args.registers.now)) (sym c.deref.ensures.value) c.requires.can.within

pub many-requires-clause-one_length : goal.many-requires-clause-one_length
many-requires-clause-one_length g c =
    let xs = c.args.steps.now in
    let k = c.args.instruction.now.step in
    let does : FieldStep g.row.S.Denot = Apply c.in-Apply.op c.in-Apply.args in
    let here : slice_get xs k ≡ Some does = here_is xs k c.index-steps-at.result does (slice_get_within xs k c.requires.can.does c.requires.can.step) c.index-steps-at.is c.in-Apply.is in
    subst (λ ks. All (λ r. register_len r ≡ register_len c.args.into.now) (registers_named c.args.registers.now ks)) (sym c.deref.ensures.value) (operands_long g.S.Source.sources g.S.Source.taken xs (g.C.Context.meaning c.args.context.now) c.args.elements.now c.args.wholes.now c.requires.ready c.args.instruction.now c.args.registers.now c.args.into.now c.requires.can c.in-Apply.op c.in-Apply.args here)

pub many-requires-clause-takes : goal.many-requires-clause-takes
many-requires-clause-takes g c =
    let xs = c.args.steps.now in
    let k = c.args.instruction.now.step in
    let does : FieldStep g.row.S.Denot = Apply c.in-Apply.op c.in-Apply.args in
    let here : slice_get xs k ≡ Some does = here_is xs k c.index-steps-at.result does (slice_get_within xs k c.requires.can.does c.requires.can.step) c.index-steps-at.is c.in-Apply.is in
    subst (λ ks. Takes c.in-Apply.op (map register_kind (registers_named c.args.registers.now ks))) (sym c.deref.ensures.value) (operands_taken g.S.Source.sources g.S.Source.taken xs (g.C.Context.meaning c.args.context.now) c.args.elements.now c.args.wholes.now c.requires.ready c.args.instruction.now c.args.registers.now c.args.into.now c.requires.can c.in-Apply.op c.in-Apply.args here)

pub many-requires-clause-gives : goal.many-requires-clause-gives
many-requires-clause-gives g c =
    let xs = c.args.steps.now in
    let k = c.args.instruction.now.step in
    let does : FieldStep g.row.S.Denot = Apply c.in-Apply.op c.in-Apply.args in
    let here : slice_get xs k ≡ Some does = here_is xs k c.index-steps-at.result does (slice_get_within xs k c.requires.can.does c.requires.can.step) c.index-steps-at.is c.in-Apply.is in
    kind_here g.S.Source.sources g.S.Source.taken xs (g.C.Context.meaning c.args.context.now) c.args.elements.now c.args.wholes.now c.requires.ready c.args.instruction.now c.args.registers.now c.args.into.now c.requires.can does here

pub returns-in-Apply : goal.returns-in-Apply
returns-in-Apply g c =
    let xs = c.args.steps.now in
    let k = c.args.instruction.now.step in
    let does : FieldStep g.row.S.Denot = Apply c.in-Apply.op c.in-Apply.args in
    let here : slice_get xs k ≡ Some does = here_is xs k c.index-steps-at.result does (slice_get_within xs k c.requires.can.does c.requires.can.step) c.index-steps-at.is c.in-Apply.is in
    gives_at g.S.Source.sources g.S.Source.taken xs (g.C.Context.meaning c.args.context.now) c.args.elements.now c.args.wholes.now c.requires.ready c.args.instruction.now c.args.registers.now c.args.into.now c.requires.can does here c.many.new.into c.many.ensures.kind c.many.ensures.len
    (λ i h. c.many.ensures.values i h ∙ (ap (λ ks. row c.in-Apply.op (map (register_value i) (registers_named c.args.registers.now ks))) c.deref.ensures.value ∙ rows g.S.Source.sources g.S.Source.taken xs (g.C.Context.meaning c.args.context.now) c.args.elements.now c.args.wholes.now c.requires.ready c.args.instruction.now c.args.registers.now c.args.into.now c.requires.can c.in-Apply.op c.in-Apply.args here i h))

pub index-requires : goal.index-requires
index-requires g c =
    let xs = c.args.steps.now in
    let k = c.args.instruction.now.step in
    let does : FieldStep g.row.S.Denot = Sampled c.in-Sampled.tag c.in-Sampled.source c.in-Sampled.arg in
    let here : slice_get xs k ≡ Some does = here_is xs k c.index-steps-at.result does (slice_get_within xs k c.requires.can.does c.requires.can.step) c.index-steps-at.is c.in-Sampled.is in
    omega (arith, one_operand g.S.Source.sources g.S.Source.taken xs (g.C.Context.meaning c.args.context.now) c.args.elements.now c.args.wholes.now c.requires.ready c.args.instruction.now c.args.registers.now c.args.into.now c.requires.can c.in-Sampled.tag c.in-Sampled.source c.in-Sampled.arg here)

pub bounds-registers-index : goal.bounds-registers-index
bounds-registers-index g c =
    let xs = c.args.steps.now in
    let k = c.args.instruction.now.step in
    let does : FieldStep g.row.S.Denot = Sampled c.in-Sampled.tag c.in-Sampled.source c.in-Sampled.arg in
    let here : slice_get xs k ≡ Some does = here_is xs k c.index-steps-at.result does (slice_get_within xs k c.requires.can.does c.requires.can.step) c.index-steps-at.is c.in-Sampled.is in
    let count = one_operand g.S.Source.sources g.S.Source.taken xs (g.C.Context.meaning c.args.context.now) c.args.elements.now c.args.wholes.now c.requires.ready c.args.instruction.now c.args.registers.now c.args.into.now c.requires.can c.in-Sampled.tag c.in-Sampled.source c.in-Sampled.arg here in
    let args = c.args.instruction.now.args.items in
    let regs = c.args.registers.now in
    let some : 0 < length args = omega (arith, count) in
    let first : c.index.result.now ≡ get_or args 0 0 = get_or_read args 0 c.index.result.now some c.index.ensures 0 in
    let below : get_or args 0 0 < length regs = All-get_or (λ n. n < length regs) args 0 0 some c.requires.can.within in
    subst (λ n. n < length regs) (sym first) below

pub sample-requires-clause-takes : goal.sample-requires-clause-takes
sample-requires-clause-takes g c κs within =
    let xs = c.args.steps.now in
    let k = c.args.instruction.now.step in
    let does : FieldStep g.row.S.Denot = Sampled c.in-Sampled.tag c.in-Sampled.source c.in-Sampled.arg in
    let here : slice_get xs k ≡ Some does = here_is xs k c.index-steps-at.result does (slice_get_within xs k c.requires.can.does c.requires.can.step) c.index-steps-at.is c.in-Sampled.is in
    let count = one_operand g.S.Source.sources g.S.Source.taken xs (g.C.Context.meaning c.args.context.now) c.args.elements.now c.args.wholes.now c.requires.ready c.args.instruction.now c.args.registers.now c.args.into.now c.requires.can c.in-Sampled.tag c.in-Sampled.source c.in-Sampled.arg here in
    let args = c.args.instruction.now.args.items in
    let regs = c.args.registers.now in
    let some : 0 < length args = omega (arith, count) in
    let first : c.index.result.now ≡ get_or args 0 0 = get_or_read args 0 c.index.result.now some c.index.ensures 0 in
    let below : get_or args 0 0 < length regs = All-get_or (λ n. n < length regs) args 0 0 some c.requires.can.within in
    let there : slice_get regs (get_or args 0 0) ≡ Some c.index-registers-index.result = subst (λ n. slice_get regs n ≡ Some c.index-registers-index.result) first (slice_get_read regs (length regs) c.index.result.now c.index-registers-index.result refl (subst (λ n. n < length regs) (sym first) below) c.index-registers-index.is) in
    operand_taken g.S.Source.sources g.S.Source.taken xs (g.C.Context.meaning c.args.context.now) c.args.elements.now c.args.wholes.now c.requires.ready c.args.instruction.now c.args.registers.now c.args.into.now c.requires.can c.in-Sampled.tag c.in-Sampled.source c.in-Sampled.arg here c.index-registers-index.result there

pub sample-requires-clause-kind : goal.sample-requires-clause-kind
sample-requires-clause-kind g c κs within =
    let xs = c.args.steps.now in
    let k = c.args.instruction.now.step in
    let does : FieldStep g.row.S.Denot = Sampled c.in-Sampled.tag c.in-Sampled.source c.in-Sampled.arg in
    let here : slice_get xs k ≡ Some does = here_is xs k c.index-steps-at.result does (slice_get_within xs k c.requires.can.does c.requires.can.step) c.index-steps-at.is c.in-Sampled.is in
    kind_here g.S.Source.sources g.S.Source.taken xs (g.C.Context.meaning c.args.context.now) c.args.elements.now c.args.wholes.now c.requires.ready c.args.instruction.now c.args.registers.now c.args.into.now c.requires.can does here

pub sample-requires-clause-long : goal.sample-requires-clause-long
sample-requires-clause-long g c κs within =
    let xs = c.args.steps.now in
    let k = c.args.instruction.now.step in
    let does : FieldStep g.row.S.Denot = Sampled c.in-Sampled.tag c.in-Sampled.source c.in-Sampled.arg in
    let here : slice_get xs k ≡ Some does = here_is xs k c.index-steps-at.result does (slice_get_within xs k c.requires.can.does c.requires.can.step) c.index-steps-at.is c.in-Sampled.is in
    let count = one_operand g.S.Source.sources g.S.Source.taken xs (g.C.Context.meaning c.args.context.now) c.args.elements.now c.args.wholes.now c.requires.ready c.args.instruction.now c.args.registers.now c.args.into.now c.requires.can c.in-Sampled.tag c.in-Sampled.source c.in-Sampled.arg here in
    let args = c.args.instruction.now.args.items in
    let regs = c.args.registers.now in
    let some : 0 < length args = omega (arith, count) in
    let first : c.index.result.now ≡ get_or args 0 0 = get_or_read args 0 c.index.result.now some c.index.ensures 0 in
    let below : get_or args 0 0 < length regs = All-get_or (λ n. n < length regs) args 0 0 some c.requires.can.within in
    let there : slice_get regs (get_or args 0 0) ≡ Some c.index-registers-index.result = subst (λ n. slice_get regs n ≡ Some c.index-registers-index.result) first (slice_get_read regs (length regs) c.index.result.now c.index-registers-index.result refl (subst (λ n. n < length regs) (sym first) below) c.index-registers-index.is) in
    c.requires.can.len ∙ sym (operand_gives g.S.Source.sources g.S.Source.taken xs (g.C.Context.meaning c.args.context.now) c.args.elements.now c.args.wholes.now c.requires.ready c.args.instruction.now c.args.registers.now c.args.into.now c.requires.can c.in-Sampled.tag c.in-Sampled.source c.in-Sampled.arg here c.index-registers-index.result there).len

pub returns-in-Sampled : goal.returns-in-Sampled
returns-in-Sampled g c =
    let xs = c.args.steps.now in
    let k = c.args.instruction.now.step in
    let does : FieldStep g.row.S.Denot = Sampled c.in-Sampled.tag c.in-Sampled.source c.in-Sampled.arg in
    let here : slice_get xs k ≡ Some does = here_is xs k c.index-steps-at.result does (slice_get_within xs k c.requires.can.does c.requires.can.step) c.index-steps-at.is c.in-Sampled.is in
    let count = one_operand g.S.Source.sources g.S.Source.taken xs (g.C.Context.meaning c.args.context.now) c.args.elements.now c.args.wholes.now c.requires.ready c.args.instruction.now c.args.registers.now c.args.into.now c.requires.can c.in-Sampled.tag c.in-Sampled.source c.in-Sampled.arg here in
    let args = c.args.instruction.now.args.items in
    let regs = c.args.registers.now in
    let some : 0 < length args = omega (arith, count) in
    let first : c.index.result.now ≡ get_or args 0 0 = get_or_read args 0 c.index.result.now some c.index.ensures 0 in
    let below : get_or args 0 0 < length regs = All-get_or (λ n. n < length regs) args 0 0 some c.requires.can.within in
    let there : slice_get regs (get_or args 0 0) ≡ Some c.index-registers-index.result = subst (λ n. slice_get regs n ≡ Some c.index-registers-index.result) first (slice_get_read regs (length regs) c.index.result.now c.index-registers-index.result refl (subst (λ n. n < length regs) (sym first) below) c.index-registers-index.is) in
    gives_at g.S.Source.sources g.S.Source.taken xs (g.C.Context.meaning c.args.context.now) c.args.elements.now c.args.wholes.now c.requires.ready c.args.instruction.now c.args.registers.now c.args.into.now c.requires.can does here c.sample.new.into c.sample.ensures.kind c.sample.ensures.len
    (λ i h. c.sample.ensures.values i h ∙ samples g.S.Source.sources g.S.Source.taken xs (g.C.Context.meaning c.args.context.now) c.args.elements.now c.args.wholes.now c.requires.ready c.args.instruction.now c.args.registers.now c.args.into.now c.requires.can c.in-Sampled.tag c.in-Sampled.source c.in-Sampled.arg here c.index-registers-index.result there i h)

pub read_whole-requires-clause-kind : goal.read_whole-requires-clause-kind
read_whole-requires-clause-kind g c κs within =
    let xs = c.args.steps.now in
    let k = c.args.instruction.now.step in
    let does : FieldStep g.row.S.Denot = Elsewhere c.in-Elsewhere.step c.in-Elsewhere.args in
    let here : slice_get xs k ≡ Some does = here_is xs k c.index-steps-at.result does (slice_get_within xs k c.requires.can.does c.requires.can.step) c.index-steps-at.is c.in-Elsewhere.is in
    kind_made g.S.Source.sources g.S.Source.taken xs (g.C.Context.meaning c.args.context.now) c.args.elements.now c.args.wholes.now c.requires.ready k does here ∙ sym c.kind.ensures

pub read_whole-requires-clause-zero : goal.read_whole-requires-clause-zero
read_whole-requires-clause-zero g c κs within =
    let xs = c.args.steps.now in
    let k = c.args.instruction.now.step in
    let does : FieldStep g.row.S.Denot = Elsewhere c.in-Elsewhere.step c.in-Elsewhere.args in
    let here : slice_get xs k ≡ Some does = here_is xs k c.index-steps-at.result does (slice_get_within xs k c.requires.can.does c.requires.can.step) c.index-steps-at.is c.in-Elsewhere.is in
    λ i. zero_nowhere g.S.Source.sources g.S.Source.taken xs (g.C.Context.meaning c.args.context.now) c.args.elements.now c.args.wholes.now c.requires.ready c.args.instruction.now c.args.registers.now c.args.into.now c.requires.can c.in-Elsewhere.step c.in-Elsewhere.args here i ∙ ap zero_of (sym c.kind.ensures)

pub read_whole-requires-clause-there : goal.read_whole-requires-clause-there
read_whole-requires-clause-there g c κs within =
    let xs = c.args.steps.now in
    let k = c.args.instruction.now.step in
    let does : FieldStep g.row.S.Denot = Elsewhere c.in-Elsewhere.step c.in-Elsewhere.args in
    let here : slice_get xs k ≡ Some does = here_is xs k c.index-steps-at.result does (slice_get_within xs k c.requires.can.does c.requires.can.step) c.index-steps-at.is c.in-Elsewhere.is in
    there_here g.S.Source.sources g.S.Source.taken xs (g.C.Context.meaning c.args.context.now) c.args.elements.now c.args.wholes.now c.requires.ready c.args.instruction.now c.args.registers.now c.args.into.now c.requires.can c.in-Elsewhere.step c.in-Elsewhere.args here

pub read_whole-requires-clause-of_kind : goal.read_whole-requires-clause-of_kind
read_whole-requires-clause-of_kind g c κs within =
    let xs = c.args.steps.now in
    let k = c.args.instruction.now.step in
    let does : FieldStep g.row.S.Denot = Elsewhere c.in-Elsewhere.step c.in-Elsewhere.args in
    let here : slice_get xs k ≡ Some does = here_is xs k c.index-steps-at.result does (slice_get_within xs k c.requires.can.does c.requires.can.step) c.index-steps-at.is c.in-Elsewhere.is in
    kind_here g.S.Source.sources g.S.Source.taken xs (g.C.Context.meaning c.args.context.now) c.args.elements.now c.args.wholes.now c.requires.ready c.args.instruction.now c.args.registers.now c.args.into.now c.requires.can does here ∙ sym c.kind.ensures
