use Rattle.std.proofs.Common.{◌≡◌, ◌∙◌, ◌<◌, length, Ok, tests, rules}
use Rattle.gn_lines.specs.Lines.{first_words, other_lines}
use Rattle.gn_elements.specs.Growing.{with_words}
use Rattle.gn_elements.specs.Read.{element_of}
use Rattle.gn_elements.specs.Seen.{growing}
use Rattle.gn_elements.proofs.Growth.{one_line, fits-grown}
use Rattle.gn_elements.proofs.read.read_parts.Goals as goal

pub loop-rule-smaller : goal.loop-rule-smaller
loop-rule-smaller c =
    let less : length (other_lines c.next_line.new.self) < length (other_lines c.read_words.new.lines) = c.if-not-next_line.ensures.fewer (search (rules, tests)) in
    rw c.read_words.ensures.others at less

pub loop-rule-preserved : goal.loop-rule-preserved
loop-rule-preserved c =
    let less : length (other_lines c.next_line.new.self) < length (other_lines c.read_words.new.lines) = c.if-not-next_line.ensures.fewer (search (rules, tests)) in
    let old = growing c.loop-rule.parts in
    let new = growing c.read_words.new.parts in
    let grown : with_words old (first_words c.loop-rule.lines) ≡ Ok new = c.in-Ok.ensures.grows in (
      one_line old new c.loop-rule.lines (length (other_lines c.next_line.new.self)) c.next_line.new.self c.read_words.new.lines grown c.read_words.ensures.others c.if-not-next_line.ensures.line less ∙ c.loop-rule.invariant.0,
      fits-grown old new (element_of (length c.loop-rule.parts.points.items) (first_words c.loop-rule.lines)) grown,
    )
