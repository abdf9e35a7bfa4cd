use Rattle.std.proofs.Common.{All, IfOk, sym, subst}
use Rattle.gn_lower.specs.Carried.{IsRead}
use Rattle.gn_lower.specs.Events.{Links}
use Rattle.gn_lower.proofs.Ending.{found_or_not, given_at_end}
use Rattle.gn_lower.proofs.unfold.Unfolding.roots.Goals as goal

pub links-requires : goal.links-requires
links-requires c = subst (All (IsRead c.args.self.now.nodes.items c.args.self.now.visit)) (sym c.deref.ensures.value) (given_at_end c.args.self.now c.requires)

pub returns : goal.returns
returns c =
    found_or_not c.args.self.now c.links.new.self c.links.result c.requires
    (subst (λ rs. IfOk c.links.result (λ links. Links c.args.self.now rs links.items c.links.new.self)) c.deref.ensures.value c.links.ensures)
