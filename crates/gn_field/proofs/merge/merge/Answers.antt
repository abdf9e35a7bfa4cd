use Rattle.std.proofs.Common.{◌≡◌, ◌<◌, ◌≤◌, ◌+◌, ◌^◌, ◌∷◌, [], ◌++◌, length, subst, sym, arith}
use Rattle.gn_field.specs.Steps.{key_of, names, AreBelow}
use Rattle.gn_field.specs.Merged.{IsMoved}
use Rattle.gn_field.proofs.Merging.{IsAdded, names_fit, moved_fit, one_step, ended, added}
use Rattle.gn_field.proofs.merge.merge.Goals as goal

pub moved-requires-after_bounds : goal.moved-requires-after_bounds
moved-requires-after_bounds g c κs within =
    let l = c.loop-other in
    let x = c.other-item.result in
    subst (λ ps. AreBelow (length ps) (names (key_of x))) (sym c.deref.ensures.value)
    (names_fit c.args.steps.now.items c.args.others.now l.steps.items l.places.items l.other-index x l.invariant c.loop-other-test.true c.requires.others c.other-item.is)

pub overflow_cast-place : goal.overflow_cast-place
overflow_cast-place g c =
    let l = c.loop-other in
    let x = c.other-item.result in
    let before = c.args.steps.now.items in
    let others = c.args.others.now in
    let r = c.in_ok-step.step in
    let p = c.in_ok-place.place in
    let is : IsMoved l.places.items x r = subst (λ ps. IsMoved ps x r) c.deref.ensures.value c.in_ok-step.ensures in
    let fits = moved_fit before others l.steps.items l.places.items l.other-index x l.invariant c.loop-other-test.true c.requires.others c.other-item.is r is in
    let a : IsAdded l.steps.items r p c.add.new.steps.items = added l.steps.items r p c.add.new.steps.items l.invariant.merged fits c.in_ok-place.ensures in
    let within : p < length c.add.new.steps.items = a.within in
    let more : length c.add.new.steps.items ≤ length l.steps.items + 1 = a.few in
    let few : length l.steps.items ≤ length before + l.other-index = l.invariant.few in
    let inside : l.other-index < length others = c.loop-other-test.true in
    let bound : length before + length others < 2 ^ 32 = c.requires.few in
    omega arith

pub loop-other-preserved : goal.loop-other-preserved
loop-other-preserved g c =
    let l = c.loop-other in
    let x = c.other-item.result in
    let is : IsMoved l.places.items x c.in_ok-step.step = subst (λ ps. IsMoved ps x c.in_ok-step.step) c.deref.ensures.value c.in_ok-step.ensures in
    let items : c.push.new.self.items ≡ l.places.items ++ c.in_ok-place.place ∷ [] = c.in_ok-push.ensures.items in
    rw items (one_step c.args.steps.now.items c.args.others.now l.steps.items l.places.items l.other-index x l.invariant c.loop-other-test.true c.requires.others c.other-item.is c.in_ok-step.step is c.in_ok-place.place c.add.new.steps.items c.in_ok-place.ensures)

pub returns : goal.returns
returns g c = let l = c.loop-other in ended c.args.steps.now.items c.args.others.now l.steps.items l.places.items l.other-index (omega (arith, c.loop-other-test.false)) l.invariant (omega (arith, l.auto.other-index-end))
