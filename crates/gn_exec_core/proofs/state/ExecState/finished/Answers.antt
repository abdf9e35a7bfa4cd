use Rattle.std.proofs.Common.{length, sym, subst}
use Rattle.std.specs.Prelude.{Decides}
use Rattle.gn_exec_core.specs.States.{seen}
use Rattle.gn_exec_core.specs.Jobs.{lists_of}
use Rattle.gn_pending.specs.Flags.{AreFlagged}
use Rattle.gn_exec_core.specs.Waits.{AreFinished}
use Rattle.gn_exec_core.proofs.Waiting.{all_finished, finished_all}
use Rattle.gn_exec_core.proofs.state.ExecState.finished.Goals as goal

pub returns : goal.returns
returns g c =
    let before = c.self.inside in
    let s = seen before.graph before.given.value.items before.journal.items in
    let by_flags : Decides c.are_flagged.result (AreFlagged before.done.items c.used.result.now) = subst (λ flags. Decides c.are_flagged.result (AreFlagged flags c.used.result.now)) c.deref.ensures.value c.are_flagged.ensures in
    let by_used : Decides c.are_flagged.result (AreFlagged before.done.items before.uses.used) = subst (λ ns. Decides c.are_flagged.result (AreFlagged before.done.items ns)) c.used.ensures.list by_flags in
    let all = all_finished g.N.NodeSet.meanings g.N.NodeSet.lawful g.N.NodeSet.kind_of g.N.NodeSet.content s before.uses before.choices.items (lists_of before.rows.items) before.answers.items c.self.invariant.2 c.self.invariant.1 before.done.items before.unanswered.items (length before.answers.items) before.running c.self.invariant.3 c.used.ensures.exact in
    let back = finished_all g.N.NodeSet.meanings g.N.NodeSet.lawful g.N.NodeSet.kind_of g.N.NodeSet.content s before.uses before.choices.items (lists_of before.rows.items) before.answers.items c.self.invariant.2 c.self.invariant.1 before.done.items before.unanswered.items (length before.answers.items) before.running c.self.invariant.3 c.used.ensures.exact in (
      λ e. subst (AreFinished g.N.NodeSet.meanings g.N.NodeSet.kind_of g.N.NodeSet.content) c.self.view_is (all (by_used.0 e)),
      λ f. by_used.1 (back (subst (AreFinished g.N.NodeSet.meanings g.N.NodeSet.kind_of g.N.NodeSet.content) (sym c.self.view_is) f)),
    )
