use Rattle.std.proofs.Common.{◌≡◌, ◌+◌, ◌++◌, ◌∷◌, [], take, get_or, subst, sym}
use Rattle.std.proofs.lemmas.List.{take_more, take_all}
use Rattle.gn_value.specs.declared.value.ValueKind.{ValueKind}
use Rattle.gn_value.specs.declared.value.ValueKind.TheVariants.{Truth}
use Rattle.gn_slots.specs.Registers.{AreSlots}
use Rattle.gn_slots.proofs.Running.{slots_more}
use Rattle.gn_slots.proofs.run.slots.Goals as goal

pub loop-kind-preserved : goal.loop-kind-preserved
loop-kind-preserved c =
    let l = c.loop-kind in
    let kinds = c.args.kinds.now in
    let kind : ValueKind = get_or kinds l.kind-index Truth in
    let r = c.in_ok-zeros.field-0 in
    let more : take (l.kind-index + 1) kinds ≡ take l.kind-index kinds ++ kind ∷ [] = take_more kinds l.kind-index Truth c.loop-kind-test.true in
    let items : c.push.new.self.items ≡ l.registers.items ++ r ∷ [] = c.in_ok-push.ensures.items in
    subst (λ ks. AreSlots c.args.count ks c.push.new.self.items) (sym more)
    (subst (AreSlots c.args.count (take l.kind-index kinds ++ kind ∷ [])) (sym items)
    (slots_more c.args.count (take l.kind-index kinds) l.registers.items kind r l.invariant c.in_ok-zeros.ensures.kind c.in_ok-zeros.ensures.len))

pub returns : goal.returns
returns c =
    let l = c.loop-kind in
    subst (λ ks. AreSlots c.args.count ks l.registers.items) (take_all l.kind-index c.args.kinds.now c.loop-kind-test.false) l.invariant
