use Rattle.std.proofs.Common.{◌≡◌, drop, map}
use Rattle.gn_kinds.specs.Seen.{row_of}
use Rattle.gn_kinds.specs.Table.{row_in_sections, table}
use Rattle.gn_kinds.proofs.find.find_row.Given as goal

abbrev pub invariant-loop-rows : goal.invariant-loop-rows
invariant-loop-rows l =
    row_in_sections (map (λ rows. map row_of rows.now) (drop l.rows-index l.rows-items)) l.fn.kind ≡ row_in_sections table l.fn.kind
