use Rattle.std.proofs.Common.{◌≡◌, map, take}
use Rattle.gn_exec_laws.specs.Fits.{is_file}
use Rattle.gn_exec_core.proofs.start.imports_of.Given as goal

abbrev pub invariant-loop-number : goal.invariant-loop-number
invariant-loop-number g l = record {
  so_far : l.imports.items ≡ map (λ at. is_file (g.N.NodeSet.meanings.rows.role (g.N.NodeSet.kind_of at.kind))) (take l.number l.graph.nodes);
}
