use Rattle.std.proofs.Common.{sym, ap, ◌∙◌}
use Rattle.gn_delivery.specs.Slots.{slots_of, with_value}
use Rattle.gn_delivery.proofs.slots.set.Goals as goal

pub returns-in-Input : goal.returns-in-Input
returns-in-Input g c = c.put_input.ensures c.args.roots.now.items ∙ ap (λ p. with_value (slots_of c.args.rows.now.items c.args.roots.now.items) p c.args.value) (sym c.in-Input.is)
