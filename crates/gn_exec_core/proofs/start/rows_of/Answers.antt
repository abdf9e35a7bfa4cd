use Rattle.std.proofs.Common.{ap, map, ◌∙◌}
use Rattle.std.specs.Prelude.{option_map}
use Rattle.gn_exec_core.specs.Jobs.{lists_of}
use Rattle.gn_exec_core.specs.Starts.{start_value}
use Rattle.gn_exec_core.proofs.Adding.{map_one_more, lists_more, node_at}
use Rattle.gn_exec_core.proofs.start.rows_of.Goals as goal

pub loop-number-preserved : goal.loop-number-preserved
loop-number-preserved g c =
    let m = g.N.NodeSet.meanings in
    let start = map g.N.NodeSet.content c.args.given.now.items in
    let at = node_at (λ n. n.now) c.args.graph.now.nodes c.loop-number.number c.node.result c.in-Some.at c.in-Some.is c.node.ensures.node in
    let one = c.in_ok-row_of.ensures.values ∙ ap (λ gs. map (start_value m gs) c.deref.result.now) c.loop-number.invariant.same ∙ ap (map (start_value m start)) c.deref.ensures.value in
    record {
      same = c.row_of.ensures.same ∙ c.loop-number.invariant.same;
      values = ap (λ rows. map (λ row. map (option_map g.N.NodeSet.content) row) (lists_of rows)) c.in_ok-push.ensures.items
          ∙ ap (map (λ row. map (option_map g.N.NodeSet.content) row)) (lists_more c.loop-number.rows.items c.in_ok-row_of.field-0)
          ∙ map_one_more (λ row. map (option_map g.N.NodeSet.content) row) (lists_of c.loop-number.rows.items) c.in_ok-row_of.field-0.items (λ x. map (start_value m start) x.inputs.items) c.args.graph.now.nodes c.loop-number.number c.in-Some.at.now at c.loop-number.invariant.values one;
      runs = c.row_of.ensures.runs ∙ c.loop-number.invariant.runs;
    }
