use Rattle.std.proofs.Common.{◌≡◌, ◌∙◌, ap, length}
use Rattle.gn_field.proofs.Joining.{distinct_is}
use Rattle.gn_field.proofs.field.Field.distinct.Goals as goal

pub returns : goal.returns
returns g c =
    let xs = c.self.inside.steps.value.items in
    let items : c.as_slice.result.now ≡ xs = c.as_slice.ensures.value ∙ ap (λ v. v.items) c.deref.ensures in
    ap length items ∙ distinct_is g.S.Source.sources g.S.Source.taken xs c.args.self.now c.self.invariant c.self.view_is
