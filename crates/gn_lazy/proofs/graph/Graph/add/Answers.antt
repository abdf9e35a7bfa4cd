use Rattle.std.proofs.Common.{◌∷◌, [], ◌++◌, sym, ◌∙◌, ap}
use Rattle.std.specs.Prelude.{if◌then◌else◌}
use Rattle.gn_lazy.specs.Graphs.{Nodes, first_bad}
use Rattle.gn_lazy.proofs.Ordered.{added, none_of, ok_unless}
use Rattle.gn_lazy.proofs.graph.Graph.add.Goals as goal

pub invariant_of-self-2 : goal.invariant_of-self-2
invariant_of-self-2 g c =
    let before : Nodes g.row.K.Denot = record { nodes = c.self.inside.nodes.items; roots = c.self.inside.roots.items; constants = c.self.inside.constants } in
    let none = sym (none_of c.first_bad.result c.in_default.not-Some) ∙ c.first_bad.ensures in
    added before c.args.node c.push.new.self.items c.self.invariant
    (ap (λ z. first_bad z c.args.node.inputs.items) c.self.view_is ∙ ap (first_bad c.args.self.now) (sym c.deref.ensures.value) ∙ sym none)
    (c.push.ensures.items ∙ ap (λ b. if b then c.self.inside.nodes.items ++ c.args.node ∷ [] else c.self.inside.nodes.items) (ok_unless c.push.result (sym c.is_err.ensures.value ∙ c.if-is_err.false)))
