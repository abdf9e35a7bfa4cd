use Rattle.std.proofs.Common.{◌≡◌, ◌<◌, ◌≤◌, ◌+◌, [], ◌∷◌, ◌++◌, length, set, Some, None, refl, ap, ◌∙◌, arith, rules}
use Rattle.std.specs.Vec.{vec_len, vec_capacity}
use Rattle.std.proofs.lemmas.List.{get_or-set_same, get_or-set_other, length-set, length-map}
use Rattle.gn_exec_laws.specs.Machine.{Serve}
use Rattle.gn_exec_core.specs.declared.state.Happened.TheVariants as happened
use Rattle.gn_nodes.specs.Values.{answer_of}
use Rattle.gn_readers.specs.Readers.{lists_of as readers_in}
use Rattle.gn_exec_core.specs.Jobs.{lists_of}
use Rattle.gn_exec_core.proofs.Serving.{serve_below, answer_made, hands_made, seen_answer}
use Rattle.gn_exec_core.proofs.state.ExecState.serve.Goals as goal

pub index_mut-requires : goal.index_mut-requires
index_mut-requires g c =
    let below : c.args.node < length c.self.inside.graph.nodes = serve_below g.N.NodeSet.meanings g.N.NodeSet.kind_of g.N.NodeSet.content c.self.inside.graph c.self.inside.given.value.items c.self.inside.journal.items c.self.inside.refused.items (vec_capacity c.self.inside.journal) c.self.inside.uses c.self.inside.choices.items (lists_of c.self.inside.rows.items) c.self.inside.answers.items c.self.inside.done.items c.self.inside.unanswered.items (length c.self.inside.answers.items) c.self.inside.running c.self.invariant.0 c.self.invariant.1 c.self.invariant.2 c.self.invariant.3 c.args.self.now c.self.view_is c.args.node c.requires.waits c.requires.none_refused in
    omega (arith, below, c.self.invariant.3.all_answers)

pub index_mut-requires-2 : goal.index_mut-requires-2
index_mut-requires-2 g c =
    let below : c.args.node < length c.self.inside.graph.nodes = serve_below g.N.NodeSet.meanings g.N.NodeSet.kind_of g.N.NodeSet.content c.self.inside.graph c.self.inside.given.value.items c.self.inside.journal.items c.self.inside.refused.items (vec_capacity c.self.inside.journal) c.self.inside.uses c.self.inside.choices.items (lists_of c.self.inside.rows.items) c.self.inside.answers.items c.self.inside.done.items c.self.inside.unanswered.items (length c.self.inside.answers.items) c.self.inside.running c.self.invariant.0 c.self.invariant.1 c.self.invariant.2 c.self.invariant.3 c.args.self.now c.self.view_is c.args.node c.requires.waits c.requires.none_refused in
    omega (arith, below, c.self.invariant.3.all_unanswered)

pub answer-requires : goal.answer-requires
answer-requires g c =
    let below : c.args.node < length c.self.inside.graph.nodes = serve_below g.N.NodeSet.meanings g.N.NodeSet.kind_of g.N.NodeSet.content c.self.inside.graph c.self.inside.given.value.items c.self.inside.journal.items c.self.inside.refused.items (vec_capacity c.self.inside.journal) c.self.inside.uses c.self.inside.choices.items (lists_of c.self.inside.rows.items) c.self.inside.answers.items c.self.inside.done.items c.self.inside.unanswered.items (length c.self.inside.answers.items) c.self.inside.running c.self.invariant.0 c.self.invariant.1 c.self.invariant.2 c.self.invariant.3 c.args.self.now c.self.view_is c.args.node c.requires.waits c.requires.none_refused in
    let sizes : length c.self.inside.uses.nodes.sizes ≡ length c.self.inside.graph.nodes = ap length c.self.invariant.3.all.sizes ∙ length-map c.self.inside.graph.nodes (λ at. at.outputs) in
    omega (arith, below, sizes)

pub invariant_of-self-2 : goal.invariant_of-self-2
invariant_of-self-2 g c =
    let below : c.args.node < length c.self.inside.graph.nodes = serve_below g.N.NodeSet.meanings g.N.NodeSet.kind_of g.N.NodeSet.content c.self.inside.graph c.self.inside.given.value.items c.self.inside.journal.items c.self.inside.refused.items (vec_capacity c.self.inside.journal) c.self.inside.uses c.self.inside.choices.items (lists_of c.self.inside.rows.items) c.self.inside.answers.items c.self.inside.done.items c.self.inside.unanswered.items (length c.self.inside.answers.items) c.self.inside.running c.self.invariant.0 c.self.invariant.1 c.self.invariant.2 c.self.invariant.3 c.args.self.now c.self.view_is c.args.node c.requires.waits c.requires.none_refused in
    let there : c.args.node < length c.self.inside.answers.items = omega (arith, below, c.self.invariant.3.all_answers) in
    let room : vec_len c.reserve.new.self + 65 ≤ vec_capacity c.reserve.new.self = search rules in
    let more : length c.self.inside.journal.items + 65 ≤ vec_capacity c.push_reserved.new.self = omega (arith, room, c.push_reserved.ensures.capacity, c.reserve.ensures.len, c.self.inside.journal.ok.0) in
    let all = answer_made g.N.NodeSet.meanings g.N.NodeSet.kind_of g.N.NodeSet.content c.self.inside.graph c.self.inside.given.value.items c.self.inside.journal.items c.self.inside.refused.items (vec_capacity c.self.inside.journal) c.self.inside.uses c.self.inside.choices.items (lists_of c.self.inside.rows.items) c.self.inside.answers.items c.self.inside.done.items c.self.inside.unanswered.items (length c.self.inside.answers.items) c.self.inside.running c.self.invariant.0 c.self.invariant.1 c.self.invariant.2 c.self.invariant.3 c.args.self.now c.self.view_is c.args.node c.requires.waits c.requires.none_refused c.args.answer (happened.Serve c.args.node c.of-kept.result) c.push_reserved.new.self.items (vec_capacity c.push_reserved.new.self) c.answer.new.self (set c.self.inside.answers.items c.args.node (Some c.args.answer)) (ap (λ x. Serve c.args.node (answer_of x)) c.of-kept.ensures) refl
    (c.push_reserved.ensures.items ∙ ap (λ j. j ++ happened.Serve c.args.node c.of-kept.result ∷ []) c.reserve.ensures.items) more c.answer.ensures (get_or-set_same c.self.inside.answers.items c.args.node (Some c.args.answer) None there) (λ k d. get_or-set_other c.self.inside.answers.items c.args.node k (Some c.args.answer) None d) (length-set c.self.inside.answers.items c.args.node (Some c.args.answer)) in (
      all.0,
      all.1,
      all.2,
      all.3,
      hands_made g.N.NodeSet.meanings g.N.NodeSet.kind_of g.N.NodeSet.content c.self.inside.graph c.self.inside.given.value.items c.self.inside.journal.items c.self.inside.refused.items (vec_capacity c.self.inside.journal) c.self.inside.uses c.self.inside.choices.items (lists_of c.self.inside.rows.items) c.self.inside.answers.items c.self.inside.done.items c.self.inside.unanswered.items (length c.self.inside.answers.items) c.self.inside.running c.self.invariant.0 c.self.invariant.1 c.self.invariant.2 c.self.invariant.3 c.args.self.now c.self.view_is c.args.node c.requires.waits c.requires.none_refused (readers_in c.self.inside.readers.items) c.self.inside.roots.items c.self.invariant.4 c.args.answer (happened.Serve c.args.node c.of-kept.result) c.push_reserved.new.self.items (ap (λ x. Serve c.args.node (answer_of x)) c.of-kept.ensures) refl
          (c.push_reserved.ensures.items ∙ ap (λ j. j ++ happened.Serve c.args.node c.of-kept.result ∷ []) c.reserve.ensures.items),
    )

pub returns-clause-ok : goal.returns-clause-ok
returns-clause-ok g c = seen_answer g.N.NodeSet.meanings g.N.NodeSet.kind_of g.N.NodeSet.content c.self.inside.graph c.self.inside.given.value.items c.self.inside.journal.items c.self.inside.refused.items (vec_capacity c.self.inside.journal) c.self.inside.uses c.self.inside.choices.items (lists_of c.self.inside.rows.items) c.self.inside.answers.items c.self.inside.done.items c.self.inside.unanswered.items (length c.self.inside.answers.items) c.self.inside.running c.self.invariant.0 c.self.invariant.1 c.self.invariant.2 c.self.invariant.3 c.args.self.now c.self.view_is c.args.node c.requires.waits c.requires.none_refused c.args.answer (happened.Serve c.args.node c.of-kept.result) c.push_reserved.new.self.items (ap (λ x. Serve c.args.node (answer_of x)) c.of-kept.ensures) refl (c.push_reserved.ensures.items ∙ ap (λ j. j ++ happened.Serve c.args.node c.of-kept.result ∷ []) c.reserve.ensures.items)
