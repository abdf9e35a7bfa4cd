use Rattle.std.proofs.Common.{◌≡◌, length}
use Rattle.gn_lines.specs.Lines.{first_words, other_lines}
use Rattle.gn_elements.proofs.Rows.{RowSoFar}
use Rattle.gn_elements.proofs.row.read_row.Given as goal

abbrev pub invariant-loop-word : goal.invariant-loop-word
invariant-loop-word l =
    RowSoFar l.count (first_words l.fn.lines) (first_words l.lines) l.are_references l.are_there l.row.items × (other_lines l.lines ≡ other_lines l.fn.lines)

abbrev pub decreases-loop-word : goal.decreases-loop-word
decreases-loop-word l = length (first_words l.lines)
