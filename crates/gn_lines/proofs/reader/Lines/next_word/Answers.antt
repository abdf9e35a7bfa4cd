use Rattle.std.proofs.Common.{◌+◌, ◌∙◌, sym, ap}
use Rattle.gn_lines.specs.Lines.{first_words}
use Rattle.gn_lines.proofs.Steps.{first_words-word}
use Rattle.gn_lines.proofs.reader.Lines.next_word.Goals as goal

pub returns-in-Word-clause-word : goal.returns-in-Word-clause-word
returns-in-Word-clause-word c =
    let n = c.loop-word.self-inside.passed + 1 in
    let e = first_words-word n c.loop-word.self-inside.rest.now c.in-Word.behind.now c.in-Word.word.now (c.in-Word.ensures.0 n) in
    sym (ap first_words c.self.view_is) ∙ c.loop-word.invariant.0 ∙ e
