use Rattle.std.proofs.Common.{◌≡◌, map, take}
use Rattle.std.specs.Prelude.{option_map}
use Rattle.gn_exec_core.specs.Jobs.{lists_of}
use Rattle.gn_exec_core.specs.Starts.{start_value}
use Rattle.gn_exec_core.proofs.start.rows_of.Given as goal

abbrev pub invariant-loop-number : goal.invariant-loop-number
invariant-loop-number g l = record {
  same : map g.N.NodeSet.content l.given.items ≡ map g.N.NodeSet.content l.fn.given.items;
  values : map (λ row. map (option_map g.N.NodeSet.content) row) (lists_of l.rows.items) ≡ map (λ at. map (start_value g.N.NodeSet.meanings (map g.N.NodeSet.content l.fn.given.items)) at.inputs.items) (take l.number l.graph.nodes);
  runs : l.meter.runs ≡ l.fn.meter.runs;
}
