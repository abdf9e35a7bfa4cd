use Rattle.std.proofs.Common.{◌≡◌, take}
use Rattle.gn_scopes.specs.Seen.{scope_of}
use Rattle.gn_table.specs.Tables.{AreRows}
use Rattle.gn_table.proofs.table.rows_of.Given as goal

abbrev pub invariant-loop-node : goal.invariant-loop-node
invariant-loop-node l = record {
  number : l.number ≡ l.node-index;
  rows : AreRows (scope_of l.scope) (take l.node-index l.scope.nodes.now.items) l.rows.items;
}
