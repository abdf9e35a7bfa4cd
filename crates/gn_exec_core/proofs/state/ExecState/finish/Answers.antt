use Rattle.std.proofs.Common.{◌≡◌, ℕ, ◌<◌, ◌+◌, ◌≤◌, ◌++◌, [], ◌∷◌, map, length, get_or, true, false, sym, ap, ◌∙◌, subst, arith, rules}
use Rattle.std.proofs.lemmas.List.{length-map}
use Rattle.gn_exec_laws.specs.Claims.{finishes}
use Rattle.gn_uses.specs.Sets.{has}
use Rattle.gn_readers.specs.Readers.{lists_of as readers_in}
use Rattle.gn_exec_core.specs.declared.state.Happened.TheVariants as happened
use Rattle.std.specs.Prelude.{slice_index_or}
use Rattle.std.specs.Vec.{vec_capacity, vec_len}
use Rattle.gn_node_set.specs.Meanings.{Has}
use Rattle.gn_uses.specs.Nodes as numbers
use Rattle.gn_readers.specs.Readers.{AreReaders}
use Rattle.gn_delivery.specs.Plans.{IsPlanFor}
use Rattle.gn_delivery.specs.Marks.{Chooses, Fills}
use Rattle.gn_exec_core.specs.States.{events_of, seen, HasFlags, IsReached}
use Rattle.gn_exec_core.specs.Jobs.{Holds, lists_of}
use Rattle.gn_exec_core.specs.Waits.{Tallies}
use Rattle.gn_exec_core.specs.Finishes.{HandsOn}
use Rattle.gn_exec_core.proofs.Refusals.{read_unset, read_set}
use Rattle.gn_exec_core.proofs.Handing.{flags_more}
use Rattle.gn_exec_core.proofs.Ending.{row_read, input_kept, below, later, readable, fillable, some, seen_after, all_then}
use Rattle.gn_exec_core.proofs.state.ExecState.finish.Goals as goal

pub index-requires : goal.index-requires
index-requires g c =
    let before = c.self.inside in
    let there : c.args.node < length before.graph.nodes = below g.N.NodeSet.meanings g.N.NodeSet.lawful g.N.NodeSet.kind_of g.N.NodeSet.content before.graph before.given.value.items before.journal.items before.uses before.choices.items (lists_of before.rows.items) before.answers.items c.self.invariant.2 c.self.invariant.1 (readers_in before.readers.items) before.roots.items c.self.invariant.4 before.done.items before.unanswered.items (length before.answers.items) before.running c.self.invariant.3 c.args.self.now c.self.view_is c.args.worker c.args.node c.args.done c.requires in
    omega (arith, there, c.self.invariant.3.all_done)

pub returns-then-index-clause-ok : goal.returns-then-index-clause-ok
returns-then-index-clause-ok g c =
    let before = c.self.inside in
    let there : c.args.node < length before.graph.nodes = below g.N.NodeSet.meanings g.N.NodeSet.lawful g.N.NodeSet.kind_of g.N.NodeSet.content before.graph before.given.value.items before.journal.items before.uses before.choices.items (lists_of before.rows.items) before.answers.items c.self.invariant.2 c.self.invariant.1 (readers_in before.readers.items) before.roots.items c.self.invariant.4 before.done.items before.unanswered.items (length before.answers.items) before.running c.self.invariant.3 c.args.self.now c.self.view_is c.args.worker c.args.node c.args.done c.requires in
    let old : get_or before.done.items c.args.node false ≡ true = read_set before.done.items c.args.node c.index.result.now c.index.ensures c.if-index.true (omega (arith, there, c.self.invariant.3.all_done)) in
    later g.N.NodeSet.meanings g.N.NodeSet.lawful g.N.NodeSet.kind_of g.N.NodeSet.content before.graph before.given.value.items before.journal.items before.uses before.choices.items (lists_of before.rows.items) before.answers.items c.self.invariant.2 c.self.invariant.1 (readers_in before.readers.items) before.roots.items c.self.invariant.4 before.done.items before.unanswered.items (length before.answers.items) before.running c.self.invariant.3 c.args.self.now c.self.view_is c.args.worker c.args.node c.args.done c.requires (sym (c.self.invariant.3.is_done c.args.node) ∙ old)

pub index-readers-requires : goal.index-readers-requires
index-readers-requires g c =
    let before = c.self.inside in
    let there : c.args.node < length before.graph.nodes = below g.N.NodeSet.meanings g.N.NodeSet.lawful g.N.NodeSet.kind_of g.N.NodeSet.content before.graph before.given.value.items before.journal.items before.uses before.choices.items (lists_of before.rows.items) before.answers.items c.self.invariant.2 c.self.invariant.1 (readers_in before.readers.items) before.roots.items c.self.invariant.4 before.done.items before.unanswered.items (length before.answers.items) before.running c.self.invariant.3 c.args.self.now c.self.view_is c.args.worker c.args.node c.args.done c.requires in
    let rows : length (readers_in before.readers.items) ≡ length before.readers.items = length-map before.readers.items (λ row. row.items) in
    omega (arith, there, rows, c.self.invariant.4.readers.all)

pub plan_of-requires-after_bounds : goal.plan_of-requires-after_bounds
plan_of-requires-after_bounds g c κs within r there_is =
    let before = c.self.inside in
    let free : get_or before.done.items c.args.node false ≡ false = read_unset before.done.items c.args.node c.index.result.now c.index.ensures c.if-index.false in
    let new : has (finishes (events_of before.journal.items)) c.args.node ≡ false = sym (c.self.invariant.3.is_done c.args.node) ∙ free in
    let there : c.args.node < length before.graph.nodes = below g.N.NodeSet.meanings g.N.NodeSet.lawful g.N.NodeSet.kind_of g.N.NodeSet.content before.graph before.given.value.items before.journal.items before.uses before.choices.items (lists_of before.rows.items) before.answers.items c.self.invariant.2 c.self.invariant.1 (readers_in before.readers.items) before.roots.items c.self.invariant.4 before.done.items before.unanswered.items (length before.answers.items) before.running c.self.invariant.3 c.args.self.now c.self.view_is c.args.worker c.args.node c.args.done c.requires in
    let rows : length (readers_in before.readers.items) ≡ length before.readers.items = length-map before.readers.items (λ row. row.items) in
    let inside : c.args.node < length before.readers.items = omega (arith, there, rows, c.self.invariant.4.readers.all) in
    let is : slice_index_or (readers_in before.readers.items) c.args.node [] ≡ c.deref.result.now = row_read before.readers.items c.args.node c.index-readers.result.now inside c.index-readers.ensures ∙ sym c.deref.ensures.value in
    readable g.N.NodeSet.meanings g.N.NodeSet.lawful g.N.NodeSet.kind_of g.N.NodeSet.content before.graph before.given.value.items before.journal.items before.uses before.choices.items (lists_of before.rows.items) before.answers.items c.self.invariant.2 c.self.invariant.1 (readers_in before.readers.items) before.roots.items c.self.invariant.4 before.done.items before.unanswered.items (length before.answers.items) before.running c.self.invariant.3 c.args.self.now c.self.view_is c.args.worker c.args.node c.args.done c.requires new r (subst (λ rs. Has rs r) (sym is) there_is)

pub invariant_of-self : goal.invariant_of-self
invariant_of-self g c =
    let before = c.self.inside in (
      subst (λ j. HasFlags before.refused.items (events_of j) (vec_capacity c.reserve.new.self)) (sym c.reserve.ensures.items) (flags_more before.refused.items (events_of before.journal.items) (vec_capacity before.journal) (vec_capacity c.reserve.new.self) c.self.invariant.0 c.reserve.ensures.capacity),
      subst (λ j. IsReached g.N.NodeSet.meanings g.N.NodeSet.kind_of g.N.NodeSet.content (seen before.graph before.given.value.items j)) (sym c.reserve.ensures.items) c.self.invariant.1,
      subst (λ j. Holds g.N.NodeSet.meanings g.N.NodeSet.kind_of g.N.NodeSet.content (seen before.graph before.given.value.items j) before.uses before.choices.items (lists_of before.rows.items) before.answers.items) (sym c.reserve.ensures.items) c.self.invariant.2,
      subst (λ j. Tallies before.graph.nodes (events_of j) before.uses.nodes before.done.items before.unanswered.items (length before.answers.items) before.running) (sym c.reserve.ensures.items) c.self.invariant.3,
      subst (λ j. HandsOn g.N.NodeSet.meanings g.N.NodeSet.kind_of g.N.NodeSet.content (seen before.graph before.given.value.items j) (readers_in before.readers.items) before.roots.items) (sym c.reserve.ensures.items) c.self.invariant.4,
    )

pub index-requires-2 : goal.index-requires-2
index-requires-2 g c =
    let before = c.self.inside in
    let there : c.args.node < length before.graph.nodes = below g.N.NodeSet.meanings g.N.NodeSet.lawful g.N.NodeSet.kind_of g.N.NodeSet.content before.graph before.given.value.items before.journal.items before.uses before.choices.items (lists_of before.rows.items) before.answers.items c.self.invariant.2 c.self.invariant.1 (readers_in before.readers.items) before.roots.items c.self.invariant.4 before.done.items before.unanswered.items (length before.answers.items) before.running c.self.invariant.3 c.args.self.now c.self.view_is c.args.worker c.args.node c.args.done c.requires in
    let rows : length (readers_in before.readers.items) ≡ length before.readers.items = length-map before.readers.items (λ row. row.items) in
    omega (arith, there, rows, c.self.invariant.4.readers.all)

pub fill_all-requires : goal.fill_all-requires
fill_all-requires g c r k i there_is place =
    let before = c.self.inside in
    let free : get_or before.done.items c.args.node false ≡ false = read_unset before.done.items c.args.node c.index.result.now c.index.ensures c.if-index.false in
    let new : has (finishes (events_of before.journal.items)) c.args.node ≡ false = sym (c.self.invariant.3.is_done c.args.node) ∙ free in
    let there : c.args.node < length before.graph.nodes = below g.N.NodeSet.meanings g.N.NodeSet.lawful g.N.NodeSet.kind_of g.N.NodeSet.content before.graph before.given.value.items before.journal.items before.uses before.choices.items (lists_of before.rows.items) before.answers.items c.self.invariant.2 c.self.invariant.1 (readers_in before.readers.items) before.roots.items c.self.invariant.4 before.done.items before.unanswered.items (length before.answers.items) before.running c.self.invariant.3 c.args.self.now c.self.view_is c.args.worker c.args.node c.args.done c.requires in
    let rows : length (readers_in before.readers.items) ≡ length before.readers.items = length-map before.readers.items (λ row. row.items) in
    let inside : c.args.node < length before.readers.items = omega (arith, there, rows, c.self.invariant.4.readers.all) in
    let is : slice_index_or (readers_in before.readers.items) c.args.node [] ≡ c.deref-3.result.now = row_read before.readers.items c.args.node c.index-2.result.now inside c.index-2.ensures ∙ sym c.deref-3.ensures.value in
    input_kept before.uses.nodes c.choose_all.new.uses.nodes c.deref-2.result.now c.choose_all.ensures.nodes k i
    (fillable g.N.NodeSet.meanings g.N.NodeSet.lawful g.N.NodeSet.kind_of g.N.NodeSet.content before.graph before.given.value.items before.journal.items before.uses before.choices.items (lists_of before.rows.items) before.answers.items c.self.invariant.2 c.self.invariant.1 (readers_in before.readers.items) before.roots.items c.self.invariant.4 before.done.items before.unanswered.items (length before.answers.items) before.running c.self.invariant.3 c.args.self.now c.self.view_is c.args.worker c.args.node c.args.done c.requires new r k i (subst (λ rs. Has rs r) (sym is) there_is) place)

pub index_mut-requires : goal.index_mut-requires
index_mut-requires g c =
    let before = c.self.inside in
    let there : c.args.node < length before.graph.nodes = below g.N.NodeSet.meanings g.N.NodeSet.lawful g.N.NodeSet.kind_of g.N.NodeSet.content before.graph before.given.value.items before.journal.items before.uses before.choices.items (lists_of before.rows.items) before.answers.items c.self.invariant.2 c.self.invariant.1 (readers_in before.readers.items) before.roots.items c.self.invariant.4 before.done.items before.unanswered.items (length before.answers.items) before.running c.self.invariant.3 c.args.self.now c.self.view_is c.args.worker c.args.node c.args.done c.requires in
    omega (arith, there, c.self.invariant.3.all_done)

pub overflow_sub-self : goal.overflow_sub-self
overflow_sub-self g c =
    let before = c.self.inside in
    let free : get_or before.done.items c.args.node false ≡ false = read_unset before.done.items c.args.node c.index.result.now c.index.ensures c.if-index.false in
    let new : has (finishes (events_of before.journal.items)) c.args.node ≡ false = sym (c.self.invariant.3.is_done c.args.node) ∙ free in
    let runs : 0 < before.running = some g.N.NodeSet.meanings g.N.NodeSet.lawful g.N.NodeSet.kind_of g.N.NodeSet.content before.graph before.given.value.items before.journal.items before.uses before.choices.items (lists_of before.rows.items) before.answers.items c.self.invariant.2 c.self.invariant.1 (readers_in before.readers.items) before.roots.items c.self.invariant.4 before.done.items before.unanswered.items (length before.answers.items) before.running c.self.invariant.3 c.args.self.now c.self.view_is c.args.worker c.args.node c.args.done c.requires new in
    omega (arith, runs)

pub invariant_of-self-2 : goal.invariant_of-self-2
invariant_of-self-2 g c =
    let before = c.self.inside in
    let free : get_or before.done.items c.args.node false ≡ false = read_unset before.done.items c.args.node c.index.result.now c.index.ensures c.if-index.false in
    let new : has (finishes (events_of before.journal.items)) c.args.node ≡ false = sym (c.self.invariant.3.is_done c.args.node) ∙ free in
    let there : c.args.node < length before.graph.nodes = below g.N.NodeSet.meanings g.N.NodeSet.lawful g.N.NodeSet.kind_of g.N.NodeSet.content before.graph before.given.value.items before.journal.items before.uses before.choices.items (lists_of before.rows.items) before.answers.items c.self.invariant.2 c.self.invariant.1 (readers_in before.readers.items) before.roots.items c.self.invariant.4 before.done.items before.unanswered.items (length before.answers.items) before.running c.self.invariant.3 c.args.self.now c.self.view_is c.args.worker c.args.node c.args.done c.requires in
    let rows : length (readers_in before.readers.items) ≡ length before.readers.items = length-map before.readers.items (λ row. row.items) in
    let inside : c.args.node < length before.readers.items = omega (arith, there, rows, c.self.invariant.4.readers.all) in
    let read : slice_index_or (readers_in before.readers.items) c.args.node [] ≡ c.deref.result.now = row_read before.readers.items c.args.node c.index-readers.result.now inside c.index-readers.ensures ∙ sym c.deref.ensures.value in
    let read_again : slice_index_or (readers_in before.readers.items) c.args.node [] ≡ c.deref-3.result.now = row_read before.readers.items c.args.node c.index-2.result.now inside c.index-2.ensures ∙ sym c.deref-3.ensures.value in
    let planned : (k : ℕ) → AreReaders before.graph k (slice_index_or (readers_in before.readers.items) c.args.node []) → IsPlanFor g.N.NodeSet.meanings g.N.NodeSet.kind_of before.graph (map g.N.NodeSet.content c.args.done.outputs.items) k g.N.NodeSet.content (slice_index_or (readers_in before.readers.items) c.args.node []) c.in-Ok.plan =
    subst (λ rs. (k : ℕ) → AreReaders before.graph k rs → IsPlanFor g.N.NodeSet.meanings g.N.NodeSet.kind_of before.graph (map g.N.NodeSet.content c.args.done.outputs.items) k g.N.NodeSet.content rs c.in-Ok.plan) (sym read) c.in-Ok.ensures.plan in
    let chooses : Chooses before.uses.nodes c.in-Ok.plan.choices.items c.choose_all.new.uses.nodes = subst (λ cs. Chooses before.uses.nodes cs c.choose_all.new.uses.nodes) c.deref-2.ensures.value c.choose_all.ensures.nodes in
    let fills : Fills c.choose_all.new.uses.nodes (slice_index_or (readers_in before.readers.items) c.args.node []) c.fill_all.new.uses.nodes = subst (λ rs. Fills c.choose_all.new.uses.nodes rs c.fill_all.new.uses.nodes) (sym read_again) c.fill_all.ensures.nodes in
    let chosen : c.choose_all.new.choices.items ≡ c.fill_all.new.uses.nodes.choices = c.choose_all.ensures.choices ∙ sym (ap (λ (x : numbers.Nodes). x.choices) c.fill_all.ensures.nodes.same) in
    let room : vec_len c.reserve.new.self + 65 ≤ vec_capacity c.reserve.new.self = search rules in
    let more : length before.journal.items + 65 ≤ vec_capacity c.push_reserved.new.self = omega (arith, room, c.push_reserved.ensures.capacity, c.reserve.ensures.len, before.journal.ok.0) in
    all_then g.N.NodeSet.meanings g.N.NodeSet.lawful g.N.NodeSet.kind_of g.N.NodeSet.content before.graph before.given.value.items before.journal.items before.uses before.choices.items (lists_of before.rows.items) before.answers.items c.self.invariant.2 c.self.invariant.1 (readers_in before.readers.items) before.roots.items c.self.invariant.4 before.done.items before.unanswered.items (length before.answers.items) before.running c.self.invariant.3 c.args.self.now c.self.view_is c.args.worker c.args.node c.args.done c.requires new
    c.plan_of.new.outputs.items c.in-Ok.ensures.same c.in-Ok.plan planned c.choose_all.new.uses chooses c.fill_all.new.uses fills (c.fill_all.ensures.taken ∙ c.choose_all.ensures.taken) c.choose_all.new.choices.items chosen
    (lists_of c.deliver.new.rows.items) c.deliver.new.roots.items c.deliver.ensures
    c.of-about.result c.push_reserved.new.self.items (c.push_reserved.ensures.items ∙ ap (λ j. j ++ happened.Finish c.args.worker c.args.node c.of-about.result ∷ []) c.reserve.ensures.items)
    before.refused.items (vec_capacity before.journal) (vec_capacity c.push_reserved.new.self) c.self.invariant.0 more

pub returns-clause-ok : goal.returns-clause-ok
returns-clause-ok g c =
    let before = c.self.inside in
    let free : get_or before.done.items c.args.node false ≡ false = read_unset before.done.items c.args.node c.index.result.now c.index.ensures c.if-index.false in
    let new : has (finishes (events_of before.journal.items)) c.args.node ≡ false = sym (c.self.invariant.3.is_done c.args.node) ∙ free in
    seen_after g.N.NodeSet.meanings g.N.NodeSet.lawful g.N.NodeSet.kind_of g.N.NodeSet.content before.graph before.given.value.items before.journal.items before.uses before.choices.items (lists_of before.rows.items) before.answers.items c.self.invariant.2 c.self.invariant.1 (readers_in before.readers.items) before.roots.items c.self.invariant.4 before.done.items before.unanswered.items (length before.answers.items) before.running c.self.invariant.3 c.args.self.now c.self.view_is c.args.worker c.args.node c.args.done c.requires new c.of-about.result c.push_reserved.new.self.items (c.push_reserved.ensures.items ∙ ap (λ j. j ++ happened.Finish c.args.worker c.args.node c.of-about.result ∷ []) c.reserve.ensures.items) (ap (λ v. v.items) c.of-about.ensures)
