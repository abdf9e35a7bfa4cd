use Rattle.std.proofs.Common.{◌≡◌, drop}
use Rattle.gn_lines.specs.Parts.{from_line_feed}
use Rattle.gn_lines.proofs.reader.from_line_feed.Given as goal

abbrev pub invariant-loop-i : goal.invariant-loop-i
invariant-loop-i l = from_line_feed (drop l.i l.text) ≡ from_line_feed l.text
