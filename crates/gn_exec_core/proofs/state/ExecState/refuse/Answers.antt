use Rattle.std.proofs.Common.{◌≡◌, ◌∷◌, length, true, false, get_or, set, sym, ap, ◌∙◌, subst}
use Rattle.std.specs.Vec.{vec_capacity}
use Rattle.gn_exec_laws.specs.Machine.{Refuse}
use Rattle.gn_exec_core.specs.States.{events_of, seen, refuses, refused_by, HasFlags}
use Rattle.gn_exec_core.specs.Jobs.{Holds, lists_of}
use Rattle.gn_readers.specs.Readers.{lists_of as readers_in}
use Rattle.gn_exec_core.specs.Finishes.{HandsOn}
use Rattle.gn_exec_core.specs.Waits.{Tallies}
use Rattle.gn_exec_core.proofs.Taking.{holds_refused, hands_refused}
use Rattle.gn_exec_core.proofs.Tallying.{tallied_refusal}
use Rattle.gn_exec_core.proofs.Refusals.{read_unset, refusal_last, refusal_flagged, refusal_events, refusal_seen, refusal_reached}
use Rattle.gn_exec_core.proofs.state.ExecState.refuse.Goals as goal

pub invariant_of-self : goal.invariant_of-self
invariant_of-self g c =
    let before = c.self.inside in
    let free : get_or before.refused.items c.args.worker false ≡ false = read_unset before.refused.items c.args.worker c.index.result.now c.index.ensures c.if-index.false in
    let new : refuses (events_of before.journal.items) c.args.worker ≡ false = sym (c.self.invariant.0.flagged c.args.worker) ∙ free in
    let last = refusal_last before.graph before.given.value.items before.journal.items c.push_reserved.new.self.items c.args.worker c.push_reserved.ensures.items new in
    let flags : HasFlags (set before.refused.items c.args.worker true) (Refuse c.args.worker ∷ events_of before.journal.items) (vec_capacity before.journal) =
    refusal_flagged before.refused.items (events_of before.journal.items) (vec_capacity before.journal) c.args.worker c.self.invariant.0 c.requires free in (
      subst (λ es. HasFlags (set before.refused.items c.args.worker true) es (vec_capacity c.push_reserved.new.self)) (sym last)
          (subst (λ room. HasFlags (set before.refused.items c.args.worker true) (Refuse c.args.worker ∷ events_of before.journal.items) room) (sym c.push_reserved.ensures.capacity) flags),
      refusal_reached before.graph before.given.value.items before.journal.items c.push_reserved.new.self.items c.args.worker c.push_reserved.ensures.items new
          g.N.NodeSet.meanings g.N.NodeSet.kind_of g.N.NodeSet.content c.requires c.self.invariant.1,
      subst (λ s. Holds g.N.NodeSet.meanings g.N.NodeSet.kind_of g.N.NodeSet.content s before.uses before.choices.items (lists_of before.rows.items) before.answers.items)
          (sym (refusal_events before.graph before.given.value.items before.journal.items c.push_reserved.new.self.items c.args.worker c.push_reserved.ensures.items new))
          (holds_refused g.N.NodeSet.meanings g.N.NodeSet.kind_of g.N.NodeSet.content (seen before.graph before.given.value.items before.journal.items) before.uses before.choices.items (lists_of before.rows.items) before.answers.items c.args.worker c.self.invariant.2),
      subst (λ es. Tallies before.graph.nodes es before.uses.nodes before.done.items before.unanswered.items (length before.answers.items) before.running) (sym last)
          (tallied_refusal before.graph.nodes (events_of before.journal.items) before.done.items before.unanswered.items (length before.answers.items) before.running before.uses.nodes c.args.worker c.self.invariant.3),
      subst (λ s. HandsOn g.N.NodeSet.meanings g.N.NodeSet.kind_of g.N.NodeSet.content s (readers_in before.readers.items) before.roots.items)
          (sym (refusal_events before.graph before.given.value.items before.journal.items c.push_reserved.new.self.items c.args.worker c.push_reserved.ensures.items new))
          (hands_refused g.N.NodeSet.meanings g.N.NodeSet.kind_of g.N.NodeSet.content (seen before.graph before.given.value.items before.journal.items) (readers_in before.readers.items) before.roots.items c.args.worker c.self.invariant.4),
    )

pub returns : goal.returns
returns g c =
    let before = c.self.inside in
    let free : get_or before.refused.items c.args.worker false ≡ false = read_unset before.refused.items c.args.worker c.index.result.now c.index.ensures c.if-index.false in
    let new : refuses (events_of before.journal.items) c.args.worker ≡ false = sym (c.self.invariant.0.flagged c.args.worker) ∙ free in
    refusal_seen before.graph before.given.value.items before.journal.items c.push_reserved.new.self.items c.args.worker c.push_reserved.ensures.items new
    ∙ ap (λ s. refused_by s c.args.worker) c.self.view_is
