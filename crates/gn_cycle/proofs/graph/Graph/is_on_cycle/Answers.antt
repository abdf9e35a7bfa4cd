use Rattle.std.proofs.Common.{ap}
use Rattle.gn_cycle.specs.Graph.{lists}
use Rattle.gn_cycle.proofs.Ranking.{not_back}
use Rattle.gn_cycle.proofs.graph.Graph.is_on_cycle.Goals as goal

pub returns-then-leads_down : goal.returns-then-leads_down
returns-then-leads_down c =
    let graph = lists c.self.inside.targets.items in
    let ranks = c.self.inside.ranks.items in
    let apart = not_back c.args.self.now graph (lists c.deref.result.now) ranks c.deref-2.result.now c.args.node c.leads_down.result c.self.invariant c.self.view_is (ap lists c.deref.ensures.value) c.deref-2.ensures.value c.leads_down.ensures c.if-leads_down.true in
    (λ e. absurd (cc), λ l. absurd (apart l))
