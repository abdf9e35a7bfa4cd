use Rattle.std.proofs.Common.{refl}
use Rattle.gn_scopes.specs.Seen.{scope_of}
use Rattle.gn_table.proofs.Rows.{all_rows}
use Rattle.gn_table.proofs.table.table_of.Goals as goal

pub returns : goal.returns
returns c = record {
  rows = all_rows (scope_of c.args.scope.now) c.args.scope.now.nodes.now.items c.in_ok-rows.rows.items refl c.in_ok-rows.ensures;
  order = c.in_ok-order.ensures;
  given = refl;
}
