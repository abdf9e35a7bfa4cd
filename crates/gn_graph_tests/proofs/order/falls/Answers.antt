use Rattle.std.proofs.Common.{◌≡◌, ◌<◌, ◌≤◌, length, sym, subst, arith}
use Rattle.std.proofs.lemmas.List.{length-map}
use Rattle.gn_cycle.specs.Graph.{Graph, lists, targets}
use Rattle.gn_graph_tests.specs.Falls.{number_of}
use Rattle.gn_graph_tests.proofs.Falling.{all_below, acyclic}
use Rattle.gn_graph_tests.proofs.order.falls.Goals as goal

pub returns : goal.returns
returns c =
    let graph : Graph = lists c.args.targets.now in
    let numbers = c.args.numbers.now in
    let same : length graph ≡ length c.args.targets.now = length-map c.args.targets.now (λ v. v.items) in
    λ yes. acyclic graph numbers (λ node h target k.
    let below : node < c.loop-node.node = let all : length c.args.targets.now ≤ c.loop-node.node = c.loop-node-test.false in omega (arith, h, same, all) in
    subst (λ n. (target < n) × (number_of numbers target < number_of numbers node)) (sym same)
    (all_below numbers (length c.args.targets.now) (number_of numbers node) (targets graph node) (c.loop-node.invariant node below) target k))
