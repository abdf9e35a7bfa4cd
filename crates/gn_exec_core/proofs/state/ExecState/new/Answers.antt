use Rattle.std.proofs.Common.{◌≡◌, ◌≤◌, [], length, map, None, true, false, replicate, sym, ap, subst, ◌∙◌, arith}
use Rattle.std.specs.Vec.{vec_capacity}
use Rattle.std.specs.Prelude.{All, option_map, is_some, slice_index_or}
use Rattle.std.proofs.lemmas.List.{length-map, length-replicate}
use Rattle.gn_exec_core.specs.States.{events_of, seen}
use Rattle.gn_readers.specs.Readers.{lists_of as readers_in}
use Rattle.gn_exec_core.specs.Jobs.{lists_of}
use Rattle.gn_exec_core.specs.Starts.{start_value, CanCarry, HasNumbers}
use Rattle.gn_exec_core.specs.Waits.{Tallies}
use Rattle.gn_exec_core.proofs.Tallying.{tallied_first, no_other}
use Rattle.gn_exec_core.proofs.Serving.{still_holds}
use Rattle.gn_exec_core.proofs.Starting.{all_carry, roots_carry, each_may_choose, chosen_switch}
use Rattle.gn_exec_core.proofs.Beginning.{begun_hands, rows_counted, begun_all, seen_begun}
use Rattle.gn_exec_core.proofs.state.ExecState.new.Goals as goal

pub rows_of-requires-after_bounds : goal.rows_of-requires-after_bounds
rows_of-requires-after_bounds g c keys lives =
    let count = length-map c.args.given.items g.N.NodeSet.content ∙ c.requires.given in
    all_carry g.N.NodeSet.meanings g.N.NodeSet.kind_of g.N.NodeSet.content c.args.graph (map g.N.NodeSet.content c.args.given.items) g.N.NodeSet.lawful c.requires.start count c.look_at.ensures

pub choices_of-requires-clause-same : goal.choices_of-requires-clause-same
choices_of-requires-clause-same g c keys lives =
    rows_counted (λ row. map (option_map g.N.NodeSet.content) row) c.in_ok-rows.rows.items (λ at. map (start_value g.N.NodeSet.meanings (map g.N.NodeSet.content c.args.given.items)) at.inputs.items) c.args.graph.nodes (λ r. r.items) c.in_ok-rows.ensures.values

pub choices_of-requires-clause-may : goal.choices_of-requires-clause-may
choices_of-requires-clause-may g c keys lives =
    let count = length-map c.args.given.items g.N.NodeSet.content ∙ c.requires.given in
    each_may_choose g.N.NodeSet.meanings g.N.NodeSet.kind_of g.N.NodeSet.content c.args.graph (map g.N.NodeSet.content c.args.given.items) g.N.NodeSet.lawful c.requires.start count c.look_at.ensures c.requires.conditions (lists_of c.in_ok-rows.rows.items) c.in_ok-rows.ensures.values

pub numbered-requires-clause-len : goal.numbered-requires-clause-len
numbered-requires-clause-len g c keys lives = ap length c.deref.ensures.value ∙ c.in_ok-choices.ensures.len

pub numbered-requires-clause-chosen : goal.numbered-requires-clause-chosen
numbered-requires-clause-chosen g c keys lives n at e some =
    let count = length-map c.args.given.items g.N.NodeSet.content ∙ c.requires.given in
    chosen_switch g.N.NodeSet.meanings g.N.NodeSet.kind_of g.N.NodeSet.content c.args.graph (map g.N.NodeSet.content c.args.given.items) g.N.NodeSet.lawful c.requires.start count c.look_at.ensures (lists_of c.in_ok-rows.rows.items) c.in_ok-choices.choices.items c.in_ok-choices.ensures.chosen n at e
    (subst (λ os. is_some (slice_index_or os n None) ≡ true) c.deref.ensures.value some)

pub row_of-requires-after_bounds : goal.row_of-requires-after_bounds
row_of-requires-after_bounds g c keys lives =
    let count = length-map c.args.given.items g.N.NodeSet.content ∙ c.requires.given in
    subst (λ ls. All (λ l. CanCarry g.N.NodeSet.meanings (map g.N.NodeSet.content c.rows_of.new.given.items) l) ls) (sym c.roots.ensures.links)
    (subst (λ gs. All (λ l. CanCarry g.N.NodeSet.meanings gs l) c.args.graph.roots) (sym c.in_ok-rows.ensures.same)
    (roots_carry g.N.NodeSet.meanings g.N.NodeSet.kind_of g.N.NodeSet.content c.args.graph (map g.N.NodeSet.content c.args.given.items) g.N.NodeSet.lawful c.requires.start count c.look_at.ensures))

pub invariant_of-result : goal.invariant_of-result
invariant_of-result g c =
    let are = subst (λ os. HasNumbers g.N.NodeSet.meanings g.N.NodeSet.kind_of c.args.graph.nodes os c.in_ok-uses.uses.nodes) c.deref.ensures.value c.in_ok-uses.ensures.nodes in
    let is : c.of-about.result.value.items ≡ c.args.given.items = ap (λ v. v.items) c.of-about.ensures in
    let enough : 64 ≤ vec_capacity c.in_ok-journal.journal = omega (arith, c.in_ok-journal.ensures.exact) in
    let all = begun_all g.N.NodeSet.meanings g.N.NodeSet.kind_of g.N.NodeSet.content c.args.graph c.args.given.items c.requires.start c.requires.conditions c.look_at.ensures
    (lists_of c.in_ok-rows.rows.items) c.in_ok-rows.ensures.values c.in_ok-choices.choices.items c.in_ok-choices.ensures.chosen c.in_ok-uses.uses are c.in_ok-uses.ensures.roots c.in_ok-uses.ensures.taken
    c.of-about.result.value.items c.in_ok-journal.journal.items c.in_ok-refused.refused.items (vec_capacity c.in_ok-journal.journal) is c.in_ok-journal.ensures.items (c.in_ok-refused.ensures.items_if_clones_equal (λ y h. h)) enough in
    let done = c.in_ok-done.ensures.items_if_clones_equal (λ y h. h) ∙ ap (λ k. replicate k false) c.len-count.ensures in
    let slots : length c.in_ok-answers.answers.items ≡ length c.args.graph.nodes = ap length c.in_ok-answers.ensures ∙ length-replicate c.len-count.result None ∙ c.len-count.ensures in
    let tallies = tallied_first g.N.NodeSet.meanings g.N.NodeSet.kind_of c.args.graph.nodes c.in_ok-choices.choices.items c.in_ok-uses.uses.nodes are c.in_ok-choices.ensures.len c.in_ok-done.done.items c.in_ok-unanswered.unanswered.items (length c.in_ok-answers.answers.items) done c.in_ok-unanswered.ensures slots in (
      all.0,
      all.1,
      still_holds g.N.NodeSet.meanings g.N.NodeSet.kind_of g.N.NodeSet.content (seen c.args.graph c.of-about.result.value.items c.in_ok-journal.journal.items) c.in_ok-uses.uses c.in_ok-choices.choices.items (lists_of c.in_ok-rows.rows.items) [] c.in_ok-answers.answers.items all.2 (λ k. ap (λ os. slice_index_or os k None) c.in_ok-answers.ensures ∙ no_other None c.len-count.result k),
      subst (λ j. Tallies c.args.graph.nodes (events_of j) c.in_ok-uses.uses.nodes c.in_ok-done.done.items c.in_ok-unanswered.unanswered.items (length c.in_ok-answers.answers.items) 0) (sym c.in_ok-journal.ensures.items) tallies,
      begun_hands g.N.NodeSet.meanings g.N.NodeSet.kind_of g.N.NodeSet.content c.args.graph c.args.given.items c.of-about.result.value.items c.look_at.ensures (readers_in c.in_ok-readers.readers.items) c.in_ok-roots.roots.items c.in_ok-journal.journal.items c.in_ok-readers.ensures
          (c.in_ok-roots.ensures.values ∙ ap (λ gs. map (start_value g.N.NodeSet.meanings gs) c.roots.result.now) c.in_ok-rows.ensures.same ∙ ap (map (start_value g.N.NodeSet.meanings (map g.N.NodeSet.content c.args.given.items))) c.roots.ensures.links) is c.in_ok-journal.ensures.items,
    )

pub returns-clause-state : goal.returns-clause-state
returns-clause-state g c =
    let is : c.of-about.result.value.items ≡ c.args.given.items = ap (λ v. v.items) c.of-about.ensures in
    seen_begun c.args.graph c.args.given.items c.of-about.result.value.items c.in_ok-journal.journal.items c.in_ok-journal.ensures.items is
