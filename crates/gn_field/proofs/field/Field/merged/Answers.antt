use Rattle.std.proofs.lemmas.Result.{IfOk-weaker}
use Rattle.gn_field.proofs.Together.{are_together}
use Rattle.gn_field.proofs.field.Field.merged.Goals as goal

pub returns : goal.returns
returns g c =
    IfOk-weaker c.gather.result _ _
    (λ r h. are_together g.S.Source.sources g.S.Source.taken c.args.fields.now r.steps.items r.roots.items h c.requires.one_source.0 c.requires.one_source.1)
    c.gather.ensures
