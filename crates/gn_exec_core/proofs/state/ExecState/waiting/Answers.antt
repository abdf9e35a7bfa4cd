use Rattle.std.proofs.Common.{length, subst}
use Rattle.gn_exec_core.specs.States.{seen}
use Rattle.gn_exec_core.specs.Jobs.{lists_of}
use Rattle.gn_pending.specs.Flags.{IsFirstOf}
use Rattle.gn_exec_core.specs.Waits.{WaitsFirst}
use Rattle.gn_exec_core.proofs.Waiting.{first_waits}
use Rattle.gn_exec_core.proofs.state.ExecState.waiting.Goals as goal

pub returns : goal.returns
returns g c =
    let before = c.self.inside in
    let by_flags = subst (λ flags. IsFirstOf before.graph.nodes flags c.used.result.now c.first_flagged.result) c.deref.ensures.value c.first_flagged.ensures in
    let by_used = subst (λ ns. IsFirstOf before.graph.nodes before.unanswered.items ns c.first_flagged.result) c.used.ensures.list by_flags in
    subst (λ s. WaitsFirst g.N.NodeSet.meanings g.N.NodeSet.kind_of g.N.NodeSet.content s c.first_flagged.result) c.self.view_is
    (first_waits g.N.NodeSet.meanings g.N.NodeSet.lawful g.N.NodeSet.kind_of g.N.NodeSet.content (seen before.graph before.given.value.items before.journal.items) before.uses before.choices.items (lists_of before.rows.items) before.answers.items c.self.invariant.2 c.self.invariant.1 before.done.items before.unanswered.items (length before.answers.items) before.running c.self.invariant.3
    c.used.ensures.exact c.first_flagged.result by_used)
