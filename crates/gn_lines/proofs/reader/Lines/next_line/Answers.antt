use Rattle.std.proofs.Common.{◌≡◌, ◌<◌, ◌+◌, ◌∙◌, sym, ap, subst, length, List, arith}
use Rattle.std.proofs.lemmas.Bool.Decides.{nat_tests}
use Rattle.gn_lines.specs.Lines.{Line, other_lines}
use Rattle.gn_lines.specs.Steps.{lines_at}
use Rattle.gn_lines.proofs.Steps.{fewer, past_feed}
use Rattle.gn_lines.proofs.reader.Lines.next_line.Goals as goal

pub returns-in-End-clause-fewer : goal.returns-in-End-clause-fewer
returns-in-End-clause-fewer c = λ h.
    let n = c.loop-behind.self-inside.passed + 1 in
    let some : 0 < length c.in-End.end.now = grind (arith, nat_tests, c.is_empty.ensures, h) in
    let new = lines_at (c.past_line_feed.result.0 + 1) c.past_line_feed.result.1.now in
    let old = lines_at (c.self.inside.passed + 1) c.self.inside.rest.now in
    let e : new ≡ other_lines old = c.past_line_feed.ensures.lines ∙ past_feed n c.in-End.end.now some ∙ sym (ap other_lines (c.in-End.ensures.0 n)) ∙ sym c.loop-behind.invariant.0 in
    let less = fewer (c.past_line_feed.result.0 + 1) c.past_line_feed.result.1.now (other_lines old) e in
    subst (λ (ls : List Line). length (other_lines new) < length (other_lines ls)) c.self.view_is less
