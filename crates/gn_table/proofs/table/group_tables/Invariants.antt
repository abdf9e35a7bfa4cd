use Rattle.std.proofs.Common.{◌≡◌}
use Rattle.gn_table.proofs.Rows.{AreFirstTables}
use Rattle.gn_table.proofs.table.group_tables.Given as goal

abbrev pub invariant-loop-group : goal.invariant-loop-group
invariant-loop-group l = record {
  number : l.number ≡ l.group-index;
  tables : AreFirstTables l.groups.list.now l.group-index l.tables.items;
}
