use Rattle.std.proofs.Common.{◌≡◌, drop, map}
use Rattle.std.specs.Prelude.{option_map}
use Rattle.gn_kinds.specs.Seen.{output_of}
use Rattle.gn_rules.specs.Sockets.{output_of_row}
use Rattle.gn_table.specs.Finding.{behind, find_in}
use Rattle.gn_table.proofs.sockets.find_output.Given as goal

abbrev pub invariant-loop-number : goal.invariant-loop-number
invariant-loop-number l = find_in (map (output_of_row l.chosen) (map output_of l.rows)) l.name ≡ option_map (behind l.number) (find_in (map (output_of_row l.chosen) (map output_of (drop l.number l.rows))) l.name)
