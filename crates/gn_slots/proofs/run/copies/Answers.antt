use Rattle.std.proofs.Common.{◌≡◌, ◌<◌, ◌+◌, ◌++◌, ◌∷◌, [], take, length, get_or, refl, subst, sym}
use Rattle.std.proofs.lemmas.List.{take_more, take_all}
use Rattle.std.proofs.lemmas.List.Elements.{All-get_or}
use Rattle.std.proofs.lemmas.Option.{slice_get_read}
use Rattle.gn_slots.specs.Registers.{AreCopies, IsCopy}
use Rattle.gn_slots.proofs.Roots.{copies_more}
use Rattle.gn_slots.proofs.run.copies.Goals as goal

pub bounds-registers-slot : goal.bounds-registers-slot
bounds-registers-slot c = All-get_or (λ s. s < length c.args.registers.now) c.args.slots.now c.loop-slot.slot-index 0 c.loop-slot-test.true c.requires

pub loop-slot-preserved : goal.loop-slot-preserved
loop-slot-preserved c =
    let l = c.loop-slot in
    let regs = c.args.registers.now in
    let slots = c.args.slots.now in
    let s = get_or slots l.slot-index 0 in
    let copy = c.in_ok-copied.field-0 in
    let x = c.index-registers-slot.result in
    let within : s < length regs = All-get_or (λ j. j < length regs) slots l.slot-index 0 c.loop-slot-test.true c.requires in
    let one : IsCopy regs s copy = record {
      register = x;
      is = slice_get_read regs (length regs) s x refl within c.index-registers-slot.is;
      kind = c.in_ok-copied.ensures.kind;
      len = c.in_ok-copied.ensures.len;
      values = c.in_ok-copied.ensures.values;
    } in
    let more : take (l.slot-index + 1) slots ≡ take l.slot-index slots ++ s ∷ [] = take_more slots l.slot-index 0 c.loop-slot-test.true in
    let items : c.push.new.self.items ≡ l.copies.items ++ copy ∷ [] = c.in_ok-push.ensures.items in
    subst (λ ss. AreCopies regs ss c.push.new.self.items) (sym more)
    (subst (AreCopies regs (take l.slot-index slots ++ s ∷ [])) (sym items)
    (copies_more regs (take l.slot-index slots) l.copies.items s copy l.invariant one))

pub returns : goal.returns
returns c =
    let l = c.loop-slot in
    subst (λ ss. AreCopies c.args.registers.now ss l.copies.items) (take_all l.slot-index c.args.slots.now c.loop-slot-test.false) l.invariant
