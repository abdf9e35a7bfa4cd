use Rattle.std.proofs.Common.{◌≡◌, ◌≤◌, ◌<◌, ◌+◌, ◌^◌, inl, inr, [], ◌∷◌, ◌++◌, length, None, refl, sym, ap, ◌∙◌, subst, arith, rules}
use Rattle.std.specs.Prelude.{slice_get, slice_index_or, option_map}
use Rattle.std.specs.List.{list_any}
use Rattle.std.specs.Vec.{vec_len, vec_capacity}
use Rattle.gn_exec_core.specs.declared.state.Happened.TheVariants as happened
use Rattle.gn_exec_core.specs.States.{events_of, any_refuses, seen}
use Rattle.gn_node_set.specs.Meanings.{selected}
use Rattle.gn_uses.specs.Nodes.{role_of, choice_of}
use Rattle.gn_exec_core.specs.Holds.{present}
use Rattle.gn_exec_core.specs.Jobs.{lists_of}
use Rattle.gn_readers.specs.Readers.{lists_of as readers_in}
use Rattle.gn_exec_core.specs.Finishes.{HandsOn}
use Rattle.gn_exec_core.specs.Waits.{Tallies}
use Rattle.gn_exec_core.proofs.Refusals.{any_flagged, events_push, events_counted}
use Rattle.gn_exec_core.proofs.Tallying.{tallied_take, running_within}
use Rattle.gn_exec_core.proofs.Taking.{seen_take}
use Rattle.gn_exec_core.proofs.Handing.{hands_taken, with_take, takes_first, may_take, none_now, node_there, kept_all, taken_all, job_is}
use Rattle.gn_exec_core.proofs.Adding.{node_at}
use Rattle.gn_exec_core.proofs.state.ExecState.take.Goals as goal

pub returns-then-any_set : goal.returns-then-any_set
returns-then-any_set g c = (refl, inl (sym (c.any_set.ensures ∙ (ap (λ flags. list_any (λ flag. flag) flags) c.deref.ensures.value ∙ any_flagged c.self.inside.refused.items (events_of c.self.inside.journal.items) (vec_capacity c.self.inside.journal) c.self.invariant.0) ∙ ap (λ s. any_refuses s.events) c.self.view_is) ∙ c.if-any_set.true))

pub returns-in_default : goal.returns-in_default
returns-in_default g c = (refl, inr (none_now g.N.NodeSet.meanings g.N.NodeSet.kind_of g.N.NodeSet.content c.self.inside.graph c.self.inside.given.value.items c.self.inside.journal.items c.self.inside.refused.items (vec_capacity c.self.inside.journal) c.self.inside.uses c.self.inside.choices.items (lists_of c.self.inside.rows.items) c.self.inside.answers.items c.args.self.now c.self.view_is c.self.invariant.0 c.self.invariant.1 c.self.invariant.2 c.ready.ensures.exact (ap (λ xs. slice_get xs 0) (sym c.ready.ensures.list) ∙ sym c.first_of.ensures ∙ c.in_default.is)))

pub unreachable-requires : goal.unreachable-requires
unreachable-requires g c =
    let t = may_take c.self.inside.uses c.in-Some.number (ap (λ xs. slice_get xs 0) (sym c.ready.ensures.list) ∙ sym c.first_of.ensures ∙ c.in-Some.is) in
    node_there g.N.NodeSet.meanings g.N.NodeSet.kind_of g.N.NodeSet.content c.self.inside.graph c.self.inside.given.value.items c.self.inside.journal.items c.self.inside.refused.items (vec_capacity c.self.inside.journal) c.self.inside.uses c.self.inside.choices.items (lists_of c.self.inside.rows.items) c.self.inside.answers.items c.args.self.now c.self.view_is c.self.invariant.0 c.self.invariant.1 c.self.invariant.2 c.ready.ensures.exact c.args.worker c.in-Some.number t.0 t.1 (sym c.node.ensures.node ∙ ap (option_map (λ x. x.now)) c.in_default-node.is)

pub invariant_of-self : goal.invariant_of-self
invariant_of-self g c =
    let all = kept_all g.N.NodeSet.meanings g.N.NodeSet.kind_of g.N.NodeSet.content c.self.inside.graph c.self.inside.given.value.items c.self.inside.journal.items c.self.inside.refused.items (vec_capacity c.self.inside.journal) c.self.inside.uses c.self.inside.choices.items (lists_of c.self.inside.rows.items) c.self.inside.answers.items c.args.self.now c.self.view_is c.self.invariant.0 c.self.invariant.1 c.self.invariant.2 c.ready.ensures.exact c.reserve.new.self.items (vec_capacity c.reserve.new.self) c.reserve.ensures.items c.reserve.ensures.capacity in (
      all.0,
      all.1,
      all.2,
      subst (λ j. Tallies c.self.inside.graph.nodes (events_of j) c.self.inside.uses.nodes c.self.inside.done.items c.self.inside.unanswered.items (length c.self.inside.answers.items) c.self.inside.running) (sym c.reserve.ensures.items) c.self.invariant.3,
      subst (λ j. HandsOn g.N.NodeSet.meanings g.N.NodeSet.kind_of g.N.NodeSet.content (seen c.self.inside.graph c.self.inside.given.value.items j) (readers_in c.self.inside.readers.items) c.self.inside.roots.items) (sym c.reserve.ensures.items) c.self.invariant.4,
    )

pub returns-then-is_err : goal.returns-then-is_err
returns-then-is_err g c = ap (seen c.self.inside.graph c.self.inside.given.value.items) c.reserve.ensures.items ∙ c.self.view_is

pub read_values-requires : goal.read_values-requires
read_values-requires g c =
    let none = ap length c.in-Ok.ensures.inputs in
    let row = ap length c.row_out-row.ensures.row in
    let rows = ap (λ rs. length (slice_index_or (lists_of rs) c.in-Some.number [])) c.deref-2.ensures.value in
    omega (arith, none, row, rows, c.in-Ok.job.inputs.ok.0, c.row_out-row.result.ok.0, c.in-Ok.ensures.room, c.inputs_at-room.ensures)

pub overflow_add-self : goal.overflow_add-self
overflow_add-self g c =
    let within : c.self.inside.running ≤ length (events_of c.self.inside.journal.items) = running_within c.self.inside.graph.nodes (events_of c.self.inside.journal.items) c.self.inside.done.items c.self.inside.unanswered.items (length c.self.inside.answers.items) c.self.inside.running c.self.inside.uses.nodes c.self.invariant.3 in
    let count : length (events_of c.self.inside.journal.items) ≡ length c.self.inside.journal.items = events_counted c.self.inside.journal.items in
    let room : vec_len c.reserve.new.self + 65 ≤ vec_capacity c.reserve.new.self = search rules in
    let small : vec_capacity c.reserve.new.self < 2 ^ 64 = search rules in
    omega (arith, within, count, room, small, c.reserve.ensures.len, c.self.inside.journal.ok.0)

pub invariant_of-self-2 : goal.invariant_of-self-2
invariant_of-self-2 g c =
    let room : vec_len c.reserve.new.self + 65 ≤ vec_capacity c.reserve.new.self = search rules in
    let more : length c.self.inside.journal.items + 65 ≤ vec_capacity c.push_reserved.new.self = omega (arith, room, c.push_reserved.ensures.capacity, c.reserve.ensures.len, c.self.inside.journal.ok.0) in
    let first = takes_first c.self.inside.uses c.take.new.self c.take.result c.in-Some.number c.take.ensures (ap (λ xs. slice_get xs 0) (sym c.ready.ensures.list) ∙ sym c.first_of.ensures ∙ c.in-Some.is) in
    let last = c.push_reserved.ensures.items ∙ ap (λ j. j ++ happened.Take c.args.worker c.in-Some.number ∷ []) c.reserve.ensures.items in
    let all = taken_all g.N.NodeSet.meanings g.N.NodeSet.kind_of g.N.NodeSet.content c.self.inside.graph c.self.inside.given.value.items c.self.inside.journal.items c.self.inside.refused.items (vec_capacity c.self.inside.journal) c.self.inside.uses c.self.inside.choices.items (lists_of c.self.inside.rows.items) c.self.inside.answers.items c.args.self.now c.self.view_is c.self.invariant.0 c.self.invariant.1 c.self.invariant.2 c.ready.ensures.exact c.args.worker c.in-Some.number c.take.new.self (takes_first c.self.inside.uses c.take.new.self c.take.result c.in-Some.number c.take.ensures (ap (λ xs. slice_get xs 0) (sym c.ready.ensures.list) ∙ sym c.first_of.ensures ∙ c.in-Some.is))
    c.push_reserved.new.self.items (vec_capacity c.push_reserved.new.self) (lists_of c.row_out-row.new.rows.items) c.answer_out.new.answers.items
    (sym (c.any_set.ensures ∙ (ap (λ flags. list_any (λ flag. flag) flags) c.deref.ensures.value ∙ any_flagged c.self.inside.refused.items (events_of c.self.inside.journal.items) (vec_capacity c.self.inside.journal) c.self.invariant.0)) ∙ c.if-any_set.false) (c.push_reserved.ensures.items ∙ ap (λ j. j ++ happened.Take c.args.worker c.in-Some.number ∷ []) c.reserve.ensures.items) more c.row_out-row.ensures.others c.answer_out.ensures.others in (
      all.0,
      all.1,
      all.2,
      subst (λ es. Tallies c.self.inside.graph.nodes es c.take.new.self.nodes c.self.inside.done.items c.self.inside.unanswered.items (length c.answer_out.new.answers.items) (c.self.inside.running + 1)) (sym (ap events_of last ∙ events_push c.self.inside.journal.items (happened.Take c.args.worker c.in-Some.number)))
          (tallied_take c.self.inside.graph.nodes (events_of c.self.inside.journal.items) c.self.inside.done.items c.self.inside.unanswered.items (length c.self.inside.answers.items) c.self.inside.running c.self.inside.uses c.take.new.self c.args.worker c.in-Some.number (length c.answer_out.new.answers.items) first c.answer_out.ensures.len c.self.invariant.3),
      subst (λ s. HandsOn g.N.NodeSet.meanings g.N.NodeSet.kind_of g.N.NodeSet.content s (readers_in c.self.inside.readers.items) c.self.inside.roots.items)
          (sym (ap (seen c.self.inside.graph c.self.inside.given.value.items) last ∙ seen_take c.self.inside.graph c.self.inside.given.value.items c.self.inside.journal.items c.args.worker c.in-Some.number))
          (hands_taken g.N.NodeSet.meanings g.N.NodeSet.kind_of g.N.NodeSet.content (seen c.self.inside.graph c.self.inside.given.value.items c.self.inside.journal.items) (readers_in c.self.inside.readers.items) c.self.inside.roots.items c.args.worker c.in-Some.number c.self.invariant.4),
    )

pub returns : goal.returns
returns g c =
    let here = node_at (λ x. x.now) c.self.inside.graph.nodes c.in-Some.number c.node.result c.in-Some-node.at c.in-Some-node.is c.node.ensures.node in (
      job_is g.N.NodeSet.meanings g.N.NodeSet.kind_of g.N.NodeSet.content c.self.inside.graph c.self.inside.given.value.items c.self.inside.journal.items c.self.inside.refused.items (vec_capacity c.self.inside.journal) c.self.inside.uses c.self.inside.choices.items (lists_of c.self.inside.rows.items) c.self.inside.answers.items c.args.self.now c.self.view_is c.self.invariant.0 c.self.invariant.1 c.self.invariant.2 c.ready.ensures.exact c.args.worker c.in-Some.number c.take.new.self (takes_first c.self.inside.uses c.take.new.self c.take.result c.in-Some.number c.take.ensures (ap (λ xs. slice_get xs 0) (sym c.ready.ensures.list) ∙ sym c.first_of.ensures ∙ c.in-Some.is)) c.in-Some-node.at.now here c.role-role.result c.role-role.ensures (sym (c.any_set.ensures ∙ (ap (λ flags. list_any (λ flag. flag) flags) c.deref.ensures.value ∙ any_flagged c.self.inside.refused.items (events_of c.self.inside.journal.items) (vec_capacity c.self.inside.journal) c.self.invariant.0)) ∙ c.if-any_set.false)
          record { node = c.in-Ok.job.node; path = c.in-Ok.job.path; kind = c.in-Ok.job.kind; inputs = c.read_values.new.into; answer = c.answer_out.result }
          c.in-Ok.ensures.node c.in-Ok.ensures.path c.in-Ok.ensures.kind (c.read_values.ensures ∙ ap (λ xs. xs ++ present (selected (role_of c.role-role.result) (choice_of c.choice_at.result) c.row_out-row.result.items)) c.in-Ok.ensures.inputs ∙ ap (λ o. present (selected (role_of c.role-role.result) (choice_of o) c.row_out-row.result.items)) (c.choice_at.ensures ∙ ap (λ cs. slice_index_or cs c.in-Some.number None) c.deref-3.ensures.value) ∙ ap (λ r. present (selected (role_of c.role-role.result) (choice_of (slice_index_or c.self.inside.choices.items c.in-Some.number None)) r)) c.row_out-row.ensures.row) c.answer_out.ensures.answer,
      ap (seen c.self.inside.graph c.self.inside.given.value.items) (c.push_reserved.ensures.items ∙ ap (λ j. j ++ happened.Take c.args.worker c.in-Some.number ∷ []) c.reserve.ensures.items) ∙ seen_take c.self.inside.graph c.self.inside.given.value.items c.self.inside.journal.items c.args.worker c.in-Some.number
          ∙ ap (λ s. with_take s c.args.worker c.in-Some.number) c.self.view_is
          ∙ ap (with_take c.args.self.now c.args.worker) (sym c.in-Ok.ensures.node),
    )
