use Rattle.std.proofs.Common.{◌≡◌, ◌++◌, drop, map}
use Rattle.gn_kinds.specs.Seen.{input_of}
use Rattle.gn_tree.specs.Seen.{named_of}
use Rattle.gn_rules.specs.Sockets.{input_of_row}
use Rattle.gn_scopes.specs.Seen.{scope_of}
use Rattle.gn_meaning.specs.Sites.{Way}
use Rattle.gn_meaning.specs.Reads.{default_of, reads_of}
use Rattle.gn_table.specs.Reads.{reads_in}
use Rattle.gn_table.proofs.inputs.push_rows.Given as goal

abbrev pub invariant-loop-row : goal.invariant-loop-row
invariant-loop-row l =
    (way : Way) → reads_in way l.reads.items ++ reads_of (scope_of l.scope) way (map named_of l.written.list.now) (map (input_of_row l.chosen) (map input_of (drop l.row-index l.rows))) (map default_of (map input_of (drop l.row-index l.rows)))
    ≡ reads_in way l.fn.reads.items ++ reads_of (scope_of l.scope) way (map named_of l.written.list.now) (map (input_of_row l.chosen) (map input_of l.rows)) (map default_of (map input_of l.rows))
