use Rattle.std.proofs.Common.{map, option_map, ap, sym, ◌∙◌}
use Rattle.gn_kept.specs.Answers.{kept_for}
use Rattle.gn_kept.specs.Stored.{stored, entry_of}
use Rattle.gn_kept.proofs.Entries.{kept_is, written_is, some_and}
use Rattle.gn_kept.proofs.kept.Kept.again.Goals as goal

pub returns-in_err-answer-clause-is_new : goal.returns-in_err-answer-clause-is_new
returns-in_err-answer-clause-is_new c =
    rw c.from_residual.ensures (sym (kept_is c.args.name.now c.self.inside.answers.entries ∙ ap (λ es. kept_for es c.args.name.now) c.self.view_is) ∙ sym (ap (option_map stored) c.in_err-answer.ensures.value))

pub returns-clause-stays : goal.returns-clause-stays
returns-clause-stays c =
    ap (map entry_of) (c.get_mut.follows.holds c.given.new.self).0
    ∙ (written_is c.args.name.now c.in_ok-answer.answer.now c.given.new.self c.self.inside.answers.entries c.given.ensures.stays (sym c.in_ok-answer.ensures.value) ∙ c.self.view_is)

pub returns-clause-again : goal.returns-clause-again
returns-clause-again c =
    some_and _ _ _ (ap (option_map stored) c.in_ok-answer.ensures.value ∙ (kept_is c.args.name.now c.self.inside.answers.entries ∙ ap (λ es. kept_for es c.args.name.now) c.self.view_is)) c.given.ensures.given
