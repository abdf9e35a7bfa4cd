use Rattle.std.proofs.Common.{◌≡◌, true, length}
use Rattle.gn_lines.specs.Lines.{lines, other_lines}
use Rattle.gn_elements.specs.Growing.{fits, none_yet, with_lines}
use Rattle.gn_elements.specs.Seen.{growing}
use Rattle.gn_elements.proofs.read.read_parts.Given as goal

abbrev pub invariant-loop-rule : goal.invariant-loop-rule
invariant-loop-rule l =
    (with_lines (growing l.parts) l.lines ≡ with_lines none_yet (lines l.bytes)) × (fits (growing l.parts) ≡ true)

abbrev pub decreases-loop-rule : goal.decreases-loop-rule
decreases-loop-rule l = length (other_lines l.lines)
