use Rattle.std.proofs.Common.{◌++◌, ◌∷◌, [], map, string_bytes, ap, ◌∙◌}
use Rattle.gn_kept.specs.Answers.{kept_for}
use Rattle.gn_kept.specs.Stored.{stored, entry_of}
use Rattle.gn_kept.proofs.Entries.{put_is}
use Rattle.gn_kept.proofs.kept.Kept.put.Goals as goal

pub returns-clause-ok : goal.returns-clause-ok
returns-clause-ok c =
    let name = c.in_ok-name.name in
    let answer = c.args.answer in
    let is_new = ap (λ es. kept_for es (string_bytes name)) c.self.view_is ∙ (ap (kept_for c.args.self.now) c.in_ok-name.ensures.ok ∙ c.requires.is_new) in
    ap (map entry_of) c.in_ok-insert.ensures.entries
    ∙ (put_is name answer c.self.inside.answers.entries is_new
    ∙ (ap (λ es. es ++ (string_bytes name, stored answer) ∷ []) c.self.view_is ∙ ap (λ n. c.args.self.now ++ (n, stored answer) ∷ []) c.in_ok-name.ensures.ok))
