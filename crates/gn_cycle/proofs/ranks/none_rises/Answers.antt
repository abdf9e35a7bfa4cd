use Rattle.std.proofs.Common.{◌≡◌, true, sym, ap, ◌∙◌}
use Rattle.gn_cycle.specs.Graph.{lists, targets}
use Rattle.gn_cycle.specs.Ranks.{rank, are_at_most}
use Rattle.gn_cycle.proofs.Ranking.{one_more}
use Rattle.gn_cycle.proofs.ranks.none_rises.Goals as goal

pub loop-node-preserved : goal.loop-node-preserved
loop-node-preserved c =
    let graph = lists c.args.targets.now in
    let ranks = c.args.ranks.now in
    let node = c.loop-node.node in
    let found : are_at_most ranks (rank ranks node) (targets graph node) ≡ true =
    ap (λ limit. are_at_most ranks limit (targets graph node)) (sym c.number_of.ensures) ∙ (ap (are_at_most ranks c.number_of.result) (sym c.targets_of.ensures) ∙ (sym c.are_at_most.ensures ∙ c.if-not-are_at_most.false)) in
    one_more graph ranks node c.loop-node.invariant found
