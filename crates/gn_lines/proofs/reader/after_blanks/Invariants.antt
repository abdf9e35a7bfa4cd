use Rattle.std.proofs.Common.{◌≡◌, drop}
use Rattle.gn_lines.specs.Parts.{after_blanks}
use Rattle.gn_lines.proofs.reader.after_blanks.Given as goal

abbrev pub invariant-loop-i : goal.invariant-loop-i
invariant-loop-i l = after_blanks (drop l.i l.text) ≡ after_blanks l.text
