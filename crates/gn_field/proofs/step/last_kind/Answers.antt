use Rattle.std.proofs.Common.{sym, ◌∙◌, ap}
use Rattle.gn_field.specs.Steps.{kind_at}
use Rattle.gn_field.proofs.Facts.{last_kind}
use Rattle.gn_field.proofs.step.last_kind.Goals as goal

pub returns : goal.returns
returns g c =
    let x = c.index-steps-steps.result in
    c.kind.ensures ∙ (ap (kind_at g.S.Source.sources) c.index-steps-steps.is ∙ sym (last_kind g.S.Source.sources c.args.steps.now x c.requires))
