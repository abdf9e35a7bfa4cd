use Rattle.std.proofs.Common.{sym, subst}
use Rattle.gn_shared.specs.Machine.{World}
use Rattle.gn_shared.specs.Events.{IsFoundAs}
use Rattle.std.specs.Prelude.{Some}
use Rattle.gn_shared.proofs.Kept.{go_closes}
use Rattle.gn_shared.proofs.world.Tables.go.Goals as goal

pub invariant_of-self : goal.invariant_of-self
invariant_of-self c =
    let found = subst (λ (z : World). IsFoundAs z c.args.holder (Some (c.in-Some.place, c.in-Some.handle))) (sym c.self.view_is) c.in-Some.ensures in
    go_closes _ c.args.holder c.in-Some.place c.in-Some.handle c.index_mut.result.now c.drop_user.new.self c.remove.new.self.items c.self.invariant found.0 found.1 found.2 c.index_mut.ensures.value c.drop_user.ensures c.remove.ensures.items
