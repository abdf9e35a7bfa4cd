use Rattle.std.proofs.Common.{◌≡◌, ◌<◌, ◌+◌, ◌^◌, length}
use Rattle.gn_lines.specs.Lines.{other_lines}
use Rattle.gn_lines.specs.Steps.{lines_at}
use Rattle.gn_lines.proofs.reader.Lines.next_line.Given as goal

abbrev pub invariant-loop-behind : goal.invariant-loop-behind
invariant-loop-behind l =
    let old = lines_at (l.initial.self-inside.passed + 1) l.initial.self-inside.rest.now in
    let new = lines_at (l.self-inside.passed + 1) l.self-inside.rest.now in
    (other_lines old ≡ other_lines new) × (l.self-inside.passed + length l.self-inside.rest.now < 2 ^ 64)

abbrev pub decreases-loop-behind : goal.decreases-loop-behind
decreases-loop-behind l = length l.self-inside.rest.now
