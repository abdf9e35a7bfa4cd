use Rattle.std.proofs.Common.{◌≡◌, drop}
use Rattle.gn_delivery.specs.Slots.{slots_of, with_outputs}
use Rattle.gn_delivery.proofs.slots.set_outputs.Given as goal

abbrev pub invariant-loop-number : goal.invariant-loop-number
invariant-loop-number g l = record {
  left : with_outputs (slots_of l.rows.items l.roots.items) (drop l.number-iterator.count l.itself) l.number-iterator.iter.rest.items ≡ with_outputs (slots_of l.fn.rows.items l.fn.roots.items) l.itself l.fn.outputs.items;
}
