use Rattle.std.proofs.Common.{[], ◌∷◌, ◌++◌, map, take, sym, ap, ◌∙◌}
use Rattle.gn_node_set.proofs.Lists.{map_append}
use Rattle.gn_exec_laws.specs.Fits.{is_file}
use Rattle.gn_exec_core.proofs.Adding.{node_at, take_one_more}
use Rattle.gn_exec_core.proofs.start.imports_of.Goals as goal

pub loop-number-preserved : goal.loop-number-preserved
loop-number-preserved g c =
    let at = node_at (λ x. x.now) c.args.graph.now.nodes c.loop-number.number c.node.result c.in-Some.at c.in-Some.is c.node.ensures.node in
    record {
      so_far = c.in_ok-push.ensures.items
          ∙ ap (λ b. c.loop-number.imports.items ++ b ∷ []) (c.is_import.ensures ∙ ap is_file c.role.ensures)
          ∙ ap (λ xs. xs ++ is_file (g.N.NodeSet.meanings.rows.role (g.N.NodeSet.kind_of c.in-Some.at.now.kind)) ∷ []) c.loop-number.invariant.so_far
          ∙ sym (map_append (λ x. is_file (g.N.NodeSet.meanings.rows.role (g.N.NodeSet.kind_of x.kind))) (take c.loop-number.number c.args.graph.now.nodes) (c.in-Some.at.now ∷ []))
          ∙ ap (map (λ x. is_file (g.N.NodeSet.meanings.rows.role (g.N.NodeSet.kind_of x.kind)))) (sym (take_one_more c.args.graph.now.nodes c.loop-number.number c.in-Some.at.now at));
    }
