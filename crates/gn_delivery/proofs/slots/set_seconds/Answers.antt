use Rattle.std.proofs.Common.{◌≡◌, ◌∷◌, length, sym, ap, ◌∙◌, rules}
use Rattle.gn_delivery.specs.Slots.{slots_of, with_seconds}
use Rattle.gn_delivery.proofs.Slotting.{no_items}
use Rattle.gn_delivery.proofs.slots.set_seconds.Goals as goal

pub loop-second-init : goal.loop-second-init
loop-second-init g c = record { left = ap (with_seconds (slots_of c.args.rows.now.items c.args.roots.now.items)) c.into_iter-second-iterator.ensures.into_iter_gives.0 }

pub loop-second-preserved : goal.loop-second-preserved
loop-second-preserved g c =
    let split : c.loop-second.second-iterator.rest.items ≡ c.in-Some.second ∷ c.next.new.self.rest.items = search rules in
    record {
      left = ap (λ s. with_seconds s c.next.new.self.rest.items) c.set.ensures
          ∙ sym (ap (with_seconds (slots_of c.loop-second.rows.items c.loop-second.roots.items)) split)
          ∙ c.loop-second.invariant.left;
    }

pub returns : goal.returns
returns g c =
    let none : length c.loop-second.second-iterator.rest.items ≡ 0 = search rules in
    sym (ap (with_seconds (slots_of c.loop-second.rows.items c.loop-second.roots.items)) (no_items c.loop-second.second-iterator.rest.items none)) ∙ c.loop-second.invariant.left
