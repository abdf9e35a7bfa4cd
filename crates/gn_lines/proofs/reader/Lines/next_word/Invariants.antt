use Rattle.std.proofs.Common.{◌≡◌, ◌<◌, ◌+◌, ◌^◌, length}
use Rattle.gn_lines.specs.Lines.{first_words, other_lines}
use Rattle.gn_lines.specs.Steps.{lines_at}
use Rattle.gn_lines.proofs.reader.Lines.next_word.Given as goal

abbrev pub invariant-loop-word : goal.invariant-loop-word
invariant-loop-word l =
    let old = lines_at (l.initial.self-inside.passed + 1) l.initial.self-inside.rest.now in
    let new = lines_at (l.self-inside.passed + 1) l.self-inside.rest.now in
    (first_words old ≡ first_words new) × (other_lines old ≡ other_lines new) × (l.self-inside.passed + length l.self-inside.rest.now < 2 ^ 64)

abbrev pub decreases-loop-word : goal.decreases-loop-word
decreases-loop-word l = length l.self-inside.rest.now
