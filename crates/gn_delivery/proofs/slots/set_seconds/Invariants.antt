use Rattle.std.proofs.Common.{◌≡◌}
use Rattle.gn_delivery.specs.Slots.{slots_of, with_seconds}
use Rattle.gn_delivery.proofs.slots.set_seconds.Given as goal

abbrev pub invariant-loop-second : goal.invariant-loop-second
invariant-loop-second g l = record {
  left : with_seconds (slots_of l.rows.items l.roots.items) l.second-iterator.rest.items ≡ with_seconds (slots_of l.fn.rows.items l.fn.roots.items) l.fn.seconds.items;
}
