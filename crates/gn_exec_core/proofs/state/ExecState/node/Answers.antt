use Rattle.std.proofs.Common.{length, subst}
use Rattle.std.specs.Prelude.{option_map}
use Rattle.gn_exec_core.specs.States.{seen}
use Rattle.gn_exec_core.specs.Jobs.{lists_of}
use Rattle.gn_exec_core.specs.Waits.{NodeIs}
use Rattle.gn_exec_core.proofs.Waiting.{node_found}
use Rattle.gn_exec_core.proofs.state.ExecState.node.Goals as goal

pub returns : goal.returns
returns g c =
    let before = c.self.inside in
    subst (λ s. NodeIs g.N.NodeSet.meanings g.N.NodeSet.kind_of g.N.NodeSet.content s c.args.node (option_map (λ at. at.now) c.node.result)) c.self.view_is
    (node_found g.N.NodeSet.meanings g.N.NodeSet.lawful g.N.NodeSet.kind_of g.N.NodeSet.content (seen before.graph before.given.value.items before.journal.items) before.uses before.choices.items (lists_of before.rows.items) before.answers.items c.self.invariant.2 c.self.invariant.1 before.done.items before.unanswered.items (length before.answers.items) before.running c.self.invariant.3
    c.args.node (option_map (λ at. at.now) c.node.result) c.node.ensures.node)
