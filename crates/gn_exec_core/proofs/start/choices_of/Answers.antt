use Rattle.std.proofs.Common.{◌≡◌, ◌<◌, ◌+◌, [], ◌∷◌, map, length, None, sym, ap, subst, ◌∙◌, arith, length-append}
use Rattle.std.specs.Prelude.{option_map, slice_index_or}
use Rattle.gn_lazy.specs.declared.graph.GraphNode.{GraphNode}
use Rattle.gn_exec_core.specs.Jobs.{lists_of}
use Rattle.gn_exec_core.specs.Starts.{IsChosenBy}
use Rattle.gn_exec_core.proofs.Using.{inside}
use Rattle.gn_exec_core.proofs.Adding.{node_at, more_each, row_at}
use Rattle.gn_exec_core.proofs.start.choices_of.Goals as goal

pub loop-number-preserved : goal.loop-number-preserved
loop-number-preserved g c =
    let n = c.loop-number.number in
    let row = c.row-item.result in
    let at = node_at (λ x. x.now) c.args.graph.now.nodes c.loop-number.number c.node.result c.in-Some.at c.in-Some.is c.node.ensures.node in
    let values = c.deref.ensures.value ∙ sym (row_at c.deref-row-items.result.now c.loop-number.number c.row-item.result c.loop-number-test.true c.row-item.is)
    ∙ ap (λ rows. slice_index_or (lists_of rows) c.loop-number.number []) c.deref-row-items.ensures.value in
    let last = subst (λ vs. IsChosenBy g.N.NodeSet.meanings (g.N.NodeSet.kind_of c.in-Some.at.now.kind) (map (option_map g.N.NodeSet.content) vs) c.in_ok-choice_of.field-0) values c.in_ok-choice_of.ensures in
    let grown = length-append c.loop-number.choices.items (c.in_ok-choice_of.field-0 ∷ []) in
    record {
      len = ap length c.in_ok-push.ensures.items ∙ grown ∙ ap (λ k. k + 1) c.loop-number.invariant.len;
      chosen = λ k x below e.
          subst (λ os. IsChosenBy g.N.NodeSet.meanings (g.N.NodeSet.kind_of x.kind) (map (option_map g.N.NodeSet.content) (slice_index_or (lists_of c.args.rows.now.items) k [])) (slice_index_or os k None)) (sym c.in_ok-push.ensures.items)
          (more_each (λ j (y : GraphNode g.row.N-Kind.Denot) o. IsChosenBy g.N.NodeSet.meanings (g.N.NodeSet.kind_of y.kind) (map (option_map g.N.NodeSet.content) (slice_index_or (lists_of c.args.rows.now.items) j [])) o)
          c.args.graph.now.nodes c.loop-number.choices.items None c.in_ok-choice_of.field-0 c.loop-number.number c.in-Some.at.now c.loop-number.invariant.len c.loop-number.invariant.chosen at last k x below e);
    }

pub returns-clause-chosen : goal.returns-clause-chosen
returns-clause-chosen g c n at e =
    let there : n < length c.args.graph.now.nodes = inside c.args.graph.now.nodes n at e in
    let same : length c.deref-row-items.result.now ≡ length c.args.rows.now.items = ap length c.deref-row-items.ensures.value in
    let below : n < c.loop-number.number = omega (arith, there, same, c.requires.same) in
    c.loop-number.invariant.chosen n at below e
