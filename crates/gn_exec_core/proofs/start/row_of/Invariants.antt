use Rattle.std.proofs.Common.{◌≡◌, map, take}
use Rattle.std.specs.Prelude.{option_map}
use Rattle.gn_exec_core.specs.Starts.{start_value}
use Rattle.gn_exec_core.proofs.start.row_of.Given as goal

abbrev pub invariant-loop-link : goal.invariant-loop-link
invariant-loop-link g l = record {
  same : map g.N.NodeSet.content l.given.items ≡ map g.N.NodeSet.content l.fn.given.items;
  values : map (option_map g.N.NodeSet.content) l.row.items ≡ map (start_value g.N.NodeSet.meanings (map g.N.NodeSet.content l.fn.given.items)) (take l.link-index l.links);
  runs : l.meter.runs ≡ l.fn.meter.runs;
}
