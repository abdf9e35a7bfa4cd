use Rattle.std.proofs.Common.{◌≡◌, [], take}
use Rattle.gn_exec_core.specs.Starts.{HasNumbers}
use Rattle.gn_exec_core.proofs.start.add_all.Given as goal

abbrev pub invariant-loop-number : goal.invariant-loop-number
invariant-loop-number g l = record {
  taken : l.uses.taken ≡ [];
  roots : l.uses.nodes.roots ≡ [];
  nodes : HasNumbers g.N.NodeSet.meanings g.N.NodeSet.kind_of (take l.number l.graph.nodes) (take l.number l.choices) l.uses.nodes;
}
