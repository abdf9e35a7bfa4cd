use Rattle.std.proofs.Common.{◌≡◌, ◌≤◌, ◌∙◌, ap, sym, subst, length}
use Rattle.std.specs.List.{All}
use Rattle.gn_field.specs.Kinds.{HasKinds}
use Rattle.gn_field.specs.Steps.{built, last_of}
use Rattle.gn_field.proofs.Grown.{has_at}
use Rattle.gn_field.proofs.Together.{subtree_kinds}
use Rattle.gn_field.proofs.Joining.{distinct_is}
use Rattle.gn_field.proofs.field.Field.steps.Goals as goal

pub returns-clause-count : goal.returns-clause-count
returns-clause-count g c =
    let xs = c.self.inside.steps.value.items in
    let items : c.as_slice.result.now ≡ xs = c.as_slice.ensures.value ∙ ap (λ v. v.items) c.deref.ensures in
    ap length items ∙ distinct_is g.S.Source.sources g.S.Source.taken xs c.args.self.now c.self.invariant c.self.view_is

pub returns-clause-few : goal.returns-clause-few
returns-clause-few g c =
    let items : c.as_slice.result.now ≡ c.self.inside.steps.value.items = c.as_slice.ensures.value ∙ ap (λ v. v.items) c.deref.ensures in
    subst (λ xs. length xs ≤ 4096) (sym items) c.self.invariant.few

pub returns-clause-each : goal.returns-clause-each
returns-clause-each g c =
    let xs = c.self.inside.steps.value.items in
    let items : c.as_slice.result.now ≡ xs = c.as_slice.ensures.value ∙ ap (λ v. v.items) c.deref.ensures in
    subst (λ ys. All (HasKinds g.S.Source.sources g.S.Source.taken) (built ys)) (sym items) (λ k d within. subtree_kinds g.S.Source.sources g.S.Source.taken (last_of (built xs)) _ c.self.invariant.kinds (c.self.invariant.reached _ (has_at (built xs) k d within)))
