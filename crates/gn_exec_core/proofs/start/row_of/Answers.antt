use Rattle.std.proofs.Common.{Some, sym, ap, map, ◌∙◌}
use Rattle.std.specs.Prelude.{option_map}
use Rattle.gn_exec_core.specs.Starts.{start_value}
use Rattle.gn_exec_core.proofs.Starting.{is_at}
use Rattle.gn_exec_core.proofs.Adding.{map_one_more}
use Rattle.gn_exec_core.proofs.start.row_of.Goals as goal

pub loop-link-preserved : goal.loop-link-preserved
loop-link-preserved g c =
    let m = g.N.NodeSet.meanings in
    let start = map g.N.NodeSet.content c.args.given.now.items in
    let at = is_at c.args.links.now c.loop-link.link-index c.link-item.result c.loop-link-test.true ∙ ap Some (sym c.link-item.is) in
    let one = c.in_ok-slot_of.ensures.value ∙ ap (λ gs. start_value m gs c.link-item.result) c.loop-link.invariant.same in
    record {
      same = c.slot_of.ensures.same ∙ c.loop-link.invariant.same;
      values = ap (map (option_map g.N.NodeSet.content)) c.in_ok-push.ensures.items
          ∙ map_one_more (option_map g.N.NodeSet.content) c.loop-link.row.items c.in_ok-slot_of.field-0 (start_value m start) c.args.links.now c.loop-link.link-index c.link-item.result at c.loop-link.invariant.values one;
      runs = c.slot_of.ensures.runs ∙ c.loop-link.invariant.runs;
    }
