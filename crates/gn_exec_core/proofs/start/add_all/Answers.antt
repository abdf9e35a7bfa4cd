use Rattle.std.proofs.Common.{◌<◌, ◌+◌, [], ◌∷◌, ◌++◌, map, take, length, get_or, None, sym, ap, subst, ◌∙◌, arith}
use Rattle.gn_exec_core.specs.Holds.{input_of}
use Rattle.gn_exec_core.specs.Starts.{HasNumbers, with_chosen}
use Rattle.gn_exec_core.proofs.Starting.{is_at}
use Rattle.gn_exec_core.proofs.Adding.{node_at, links_in, number_more, take_one_more}
use Rattle.gn_exec_core.proofs.start.add_all.Goals as goal

pub add-requires-clause-room : goal.add-requires-clause-room
add-requires-clause-room g c keys lives =
    let at = node_at (λ x. x.now) c.args.graph.now.nodes c.loop-number.number c.node.result c.in-Some.at c.in-Some.is c.node.ensures.node in
    links_in (take c.loop-number.number c.args.graph.now.nodes) c.args.graph.now.constants c.in-Some.at.now.inputs.items c.loop-number.uses.nodes.sizes c.loop-number.invariant.nodes.sizes (c.node.ensures.back c.loop-number.number c.in-Some.at.now at)

pub loop-number-preserved : goal.loop-number-preserved
loop-number-preserved g c =
    let m = g.N.NodeSet.meanings in
    let n = c.loop-number.number in
    let added = c.in_ok-add.ensures.nodes in
    let inside : c.loop-number.number < length c.args.choices.now = omega (arith, c.requires.len) in
    let at = node_at (λ x. x.now) c.args.graph.now.nodes c.loop-number.number c.node.result c.in-Some.at c.in-Some.is c.node.ensures.node in
    let chosen = get_or c.args.choices.now c.loop-number.number None in
    let after = with_chosen c.loop-number.uses.nodes added.0 (map input_of c.in-Some.at.now.inputs.items) c.in-Some.at.now.outputs (get_or c.args.choices.now c.loop-number.number None) in
    record {
      taken = c.in_ok-add.ensures.taken ∙ c.loop-number.invariant.taken;
      roots = ap (λ x. x.roots) added.2 ∙ c.loop-number.invariant.roots;
      nodes = subst (HasNumbers g.N.NodeSet.meanings g.N.NodeSet.kind_of (take (c.loop-number.number + 1) c.args.graph.now.nodes) (take (c.loop-number.number + 1) c.args.choices.now)) (sym added.2)
          (subst (λ ns. HasNumbers g.N.NodeSet.meanings g.N.NodeSet.kind_of ns (take (c.loop-number.number + 1) c.args.choices.now) (with_chosen c.loop-number.uses.nodes added.0 (map input_of c.in-Some.at.now.inputs.items) c.in-Some.at.now.outputs (get_or c.args.choices.now c.loop-number.number None)))
          (sym (take_one_more c.args.graph.now.nodes c.loop-number.number c.in-Some.at.now at))
          (subst (λ cs. HasNumbers g.N.NodeSet.meanings g.N.NodeSet.kind_of (take c.loop-number.number c.args.graph.now.nodes ++ c.in-Some.at.now ∷ []) cs (with_chosen c.loop-number.uses.nodes added.0 (map input_of c.in-Some.at.now.inputs.items) c.in-Some.at.now.outputs (get_or c.args.choices.now c.loop-number.number None)))
          (sym (take_one_more c.args.choices.now c.loop-number.number (get_or c.args.choices.now c.loop-number.number None) (is_at c.args.choices.now c.loop-number.number None inside)))
          (number_more g.N.NodeSet.meanings g.N.NodeSet.kind_of (take c.loop-number.number c.args.graph.now.nodes) (take c.loop-number.number c.args.choices.now) c.loop-number.uses.nodes c.in-Some.at.now (get_or c.args.choices.now c.loop-number.number None) added.0 c.loop-number.invariant.nodes added.1)));
    }
