use Rattle.std.proofs.Common.{◌≡◌, sym, ◌∙◌, ap}
use Rattle.gn_field.specs.Steps.{keys}
use Rattle.gn_field.proofs.Owned.{left_none}
use Rattle.gn_field.proofs.field.Field.unless_same.Goals as goal

pub returns-then-are_same : goal.returns-then-are_same
returns-then-are_same g c =
    let xs = c.self.inside.steps.value.items in
    let ys = c.base.inside.steps.value.items in
    let own : c.as_slice.result.now ≡ xs = c.as_slice.ensures.value ∙ ap (λ v. v.items) c.deref.ensures in
    let other : c.as_slice-2.result.now ≡ ys = c.as_slice-2.ensures.value ∙ ap (λ v. v.items) c.deref-2.ensures in
    let same : keys c.as_slice.result.now ≡ keys c.as_slice-2.result.now = c.are_same.ensures c.if-are_same.true in
    left_none g.S.Source.sources g.S.Source.taken xs ys c.args.self c.args.base.now c.self.invariant c.self.view_is c.base.view_is (ap keys (sym own) ∙ (same ∙ ap keys other))
