use Rattle.std.proofs.Common.{[], ap, ◌∙◌, sym, subst}
use Rattle.gn_uses.specs.Nodes.{with_node, HasRoom}
use Rattle.gn_uses.proofs.Calls.{node_added}
use Rattle.gn_uses.proofs.uses.Uses.add.Goals as goal

pub invariant_of-self-2 : goal.invariant_of-self-2
invariant_of-self-2 c =
    let before = c.self.inside in
    let room = subst (λ u. HasRoom u.nodes.sizes c.args.inputs.items) (sym c.self.view_is) c.requires in
    let nodes = c.push.ensures ∙ ap (λ g. record (with_node g c.args.role c.args.inputs.items 0) { sizes = [] }) c.reserve.ensures.same in
    node_added before.parts c.push.new.self before.progress before.taken c.self.invariant c.args.role c.args.inputs.items c.args.outputs room nodes c.grow.new.self c.in_ok-grow.ensures
