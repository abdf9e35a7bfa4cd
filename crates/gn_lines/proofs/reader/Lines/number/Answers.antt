use Rattle.std.proofs.Common.{◌≡◌, ◌+◌, ◌∙◌, sym, ap, arith}
use Rattle.gn_lines.specs.Lines.{first_words, first_number}
use Rattle.gn_lines.proofs.Steps.{first_number-lines_at, some_text}
use Rattle.gn_lines.proofs.reader.Lines.number.Goals as goal

pub returns : goal.returns
returns c = λ h.
    let n = c.self.inside.passed + 1 in
    let text = c.self.inside.rest.now in
    let some = some_text n text (λ e. h (sym (ap first_words c.self.view_is) ∙ e)) in
    let exact : c.saturating_add.result ≡ n = omega (arith, c.saturating_add.ensures, c.self.invariant) in
    exact ∙ sym (first_number-lines_at n text) ∙ ap first_number c.self.view_is
