use Rattle.std.proofs.Common.{◌≡◌, ◌∙◌, ap}
use Rattle.std.specs.List.{list_any}
use Rattle.gn_plain.specs.Fields.{varies}
use Rattle.gn_field.specs.Steps.{reads}
use Rattle.gn_field.proofs.Facts.{reads_is}
use Rattle.gn_field.proofs.field.Field.varies.Goals as goal

pub returns : goal.returns
returns g c =
    let xs = c.self.inside.steps.value.items in
    let items : c.as_slice.result.now ≡ xs = c.as_slice.ensures.value ∙ ap (λ v. v.items) c.deref.ensures in
    c.read_context.ensures ∙ (ap (list_any reads) items ∙ (reads_is g.S.Source.sources g.S.Source.taken xs c.self.invariant ∙ ap varies c.self.view_is))
