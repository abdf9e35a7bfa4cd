use Rattle.std.proofs.Common.{sym, subst, arith}
use Rattle.std.proofs.lemmas.Grind.{common_steps}
use Rattle.gn_shared.specs.Machine.{World}
use Rattle.gn_shared.specs.Events.{IsFoundAs}
use Rattle.std.specs.Prelude.{Some}
use Rattle.gn_shared.proofs.Kept.{add_closes}
use Rattle.gn_shared.proofs.world.Tables.add.Goals as goal

pub invariant_of-self-2 : goal.invariant_of-self-2
invariant_of-self-2 c =
    let found = subst (λ (z : World). IsFoundAs z c.args.from (Some (c.in-Some.place, c.in-Some.handle))) (sym c.self.view_is) c.in-Some.ensures in
    add_closes _ c.args.holder c.args.from c.in-Some.place c.in-Some.handle c.index_mut.result.now c.add_user.new.self c.push_within.new.items.items c.push_within-2.new.items.items c.self.invariant found.0 found.1 found.2 c.index_mut.ensures.value c.add_user.ensures (grind (arith, common_steps)) (grind (arith, common_steps))
