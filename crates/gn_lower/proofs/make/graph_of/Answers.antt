use Rattle.std.proofs.Common.{◌≡◌, ◌∙◌, sym, subst, rules, None}
use Rattle.std.proofs.lemmas.Iterator.Adapters.{YieldsList-from_vec}
use Rattle.std.proofs.lemmas.Iterator.Consumers.{YieldsList-so_far, YieldsList-turn}
use Rattle.std.proofs.lemmas.List.{map-id}
use Rattle.gn_lazy.specs.Graphs.{first_bad}
use Rattle.gn_lower.proofs.Graphing.{next_fits}
use Rattle.gn_lower.proofs.make.graph_of.Goals as goal

pub add-requires : goal.add-requires
add-requires c =
    let all = YieldsList-from_vec {s = c.into_iter-node-iterator.result} c.args.nodes.items (search rules) (search rules) in
    let turn = YieldsList-turn all c.loop-node.yielded c.loop-node.node-iterator c.loop-node.yielded_by c.next.result c.next.new.self c.in-Some.node c.in-Some.is c.next.ensures.steps in
    let before = YieldsList-so_far all c.loop-node.yielded c.loop-node.node-iterator c.loop-node.yielded_by in
    subst (λ g. first_bad g c.in-Some.node.inputs.items ≡ None) (sym c.loop-node.invariant)
    (next_fits c.args.nodes.items c.args.constants c.loop-node.yielded c.in-Some.node c.requires.back (sym (map-id c.loop-node.yielded) ∙ before) turn.0 turn.1)
