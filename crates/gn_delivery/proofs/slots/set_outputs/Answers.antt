use Rattle.std.proofs.Common.{◌≡◌, suc, None, ◌∷◌, length, drop, sym, ap, ◌∙◌, rules}
use Rattle.std.specs.Prelude.{slice_index_or}
use Rattle.gn_delivery.specs.Slots.{slots_of, with_itself, with_outputs}
use Rattle.gn_delivery.proofs.Slotting.{no_items, no_more, outputs_step}
use Rattle.gn_delivery.proofs.slots.set_outputs.Goals as goal

pub loop-number-init : goal.loop-number-init
loop-number-init g c =
    let items : c.into_iter-number-iterator.result.iter.rest.items ≡ c.args.outputs.items = search rules in
    let count : c.into_iter-number-iterator.result.count ≡ 0 = search rules in
    record {
      left = ap (λ vs. with_outputs (slots_of c.args.rows.now.items c.args.roots.now.items) (drop c.into_iter-number-iterator.result.count c.args.itself.now) vs) items
          ∙ ap (λ k. with_outputs (slots_of c.args.rows.now.items c.args.roots.now.items) (drop k c.args.itself.now) c.args.outputs.items) count;
    }

pub loop-number-preserved : goal.loop-number-preserved
loop-number-preserved g c =
    let split : c.loop-number.number-iterator.iter.rest.items ≡ c.in-Some.output ∷ c.next.new.self.iter.rest.items = search rules in
    let number : c.in-Some.number ≡ c.loop-number.number-iterator.count = search rules in
    let count : c.next.new.self.count ≡ suc c.loop-number.number-iterator.count = search rules in
    let before = ap (with_outputs (slots_of c.loop-number.rows.items c.loop-number.roots.items) (drop c.loop-number.number-iterator.count c.args.itself.now)) (sym split) ∙ c.loop-number.invariant.left in
    let place = c.place_at.ensures ∙ ap (λ k. slice_index_or c.args.itself.now k None) number in
    record {
      left = ap (λ s. with_outputs s (drop c.next.new.self.count c.args.itself.now) c.next.new.self.iter.rest.items) (c.set_itself.ensures ∙ ap (λ p. with_itself (slots_of c.loop-number.rows.items c.loop-number.roots.items) p c.in-Some.output) place)
          ∙ ap (λ k. with_outputs (with_itself (slots_of c.loop-number.rows.items c.loop-number.roots.items) (slice_index_or c.args.itself.now c.loop-number.number-iterator.count None) c.in-Some.output) (drop k c.args.itself.now) c.next.new.self.iter.rest.items) count
          ∙ outputs_step (slots_of c.loop-number.rows.items c.loop-number.roots.items) (with_outputs (slots_of c.args.rows.now.items c.args.roots.now.items) c.args.itself.now c.args.outputs.items) c.args.itself.now c.loop-number.number-iterator.count c.in-Some.output c.next.new.self.iter.rest.items before;
    }

pub returns : goal.returns
returns g c =
    let none : length c.loop-number.number-iterator.iter.rest.items ≡ 0 = search rules in
    sym (no_more (slots_of c.loop-number.rows.items c.loop-number.roots.items) (drop c.loop-number.number-iterator.count c.args.itself.now))
    ∙ sym (ap (with_outputs (slots_of c.loop-number.rows.items c.loop-number.roots.items) (drop c.loop-number.number-iterator.count c.args.itself.now)) (no_items c.loop-number.number-iterator.iter.rest.items none))
    ∙ c.loop-number.invariant.left
