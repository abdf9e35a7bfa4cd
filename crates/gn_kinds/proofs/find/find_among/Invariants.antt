use Rattle.std.proofs.Common.{◌≡◌, drop, map}
use Rattle.gn_kinds.specs.Seen.{row_of}
use Rattle.gn_kinds.specs.Table.{row_in}
use Rattle.gn_kinds.proofs.find.find_among.Given as goal

abbrev pub invariant-loop-row : goal.invariant-loop-row
invariant-loop-row l = row_in (map row_of (drop l.row-index l.rows)) l.fn.kind ≡ row_in (map row_of l.rows) l.fn.kind
